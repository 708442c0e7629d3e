use Rattle.std.proofs.Common.{◌^◌, ◌-◌, ℕ, Option, IsSome, inl, refl, ap, subst, ◌∙◌}
use Rattle.std.specs.BTreeMap.{is_at}
use Rattle.std.specs.Map.{lookup}
use Rattle.tuple_bytes.specs.Order.{name_cmp}
use Rattle.tuple_bytes.proofs.Exact.{names_exact}
use Rattle.session_core.specs.Noted.{Firsts, IsNamed, Marks, PutsFirst, first_at}
use Rattle.session_core.proofs.Lasts.{table_more}
use Rattle.session_core.proofs.Puts.{put_at}
use Rattle.session_core.proofs.reads.Reads.put_first.Goals as goal
use Rattle.session_core.proofs.reads.Reads.put_first.Goals.{in-Some, in-None}

pub returns-clause-puts : goal.returns-clause-puts
returns-clause-puts c =
    let table = c.args.table.now in
    let es = c.self.inside.tables.entries in
    let new = (c.get_mut.follows.lender c.args.first).entries in
    elim c.match-get_mut.branch [
      | in-Some w ↦
          let some : IsSome (lookup (is_at (name_cmp c.args.table.now)) c.self.inside.tables.entries) = subst (λ (o : Option ℕ). IsSome o) w.in-Some.ensures.value refl in
          rw w.self-inside-is
          (subst (λ (m : Marks). PutsFirst table c.args.first m.tables new) c.self.view_is (λ q. put_at name_cmp table c.args.first es new ((c.get_mut.follows.holds c.args.first).3 some).0 names_exact (2 ^ 64 - 1) q))
      | in-None w ↦ rw w.self-inside-is (λ q. inl (ap (λ m. first_at m.entries q) c.get_mut.follows.holds-at-none ∙ ap (λ (m : Marks). first_at m.tables q) c.self.view_is))
    ]

pub invariant_of-self : goal.invariant_of-self
invariant_of-self c =
    let table = c.args.table.now in
    let es = c.self.inside.tables.entries in
    let new = (c.get_mut.follows.lender c.args.first).entries in
    elim c.match-get_mut.branch [
      | in-Some w ↦
          let some : IsSome (lookup (is_at (name_cmp c.args.table.now)) c.self.inside.tables.entries) = subst (λ (o : Option ℕ). IsSome o) w.in-Some.ensures.value refl in
          rw w.self-inside-is
          (table_more c.self.inside.places.entries table c.args.first es new ((c.get_mut.follows.holds c.args.first).3 some).0 (c.self.invariant table some) c.self.invariant)
      | in-None w ↦ rw w.self-inside-is (λ name named. c.self.invariant name (subst (λ (l : Firsts). IsNamed l name) (ap (λ m. m.entries) c.get_mut.follows.holds-at-none) named))
    ]

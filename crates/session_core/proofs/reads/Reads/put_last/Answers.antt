use Rattle.std.proofs.Common.{ℕ, Option, IsSome, inl, refl, ap, subst, ◌∙◌}
use Rattle.std.specs.BTreeMap.{is_at}
use Rattle.std.specs.Map.{lookup}
use Rattle.session_model.specs.PlaceOrder.{place_cmp}
use Rattle.session_model.proofs.PlacesExact.{places_exact}
use Rattle.session_core.specs.Noted.{Marks, PutsLast, last_at}
use Rattle.session_core.proofs.Puts.{put_at}
use Rattle.session_core.proofs.reads.Reads.put_last.Goals as goal
use Rattle.session_core.proofs.reads.Reads.put_last.Goals.{in-Some, in-None}

pub returns-clause-puts : goal.returns-clause-puts
returns-clause-puts c =
    let place = c.args.place.now in
    let es = c.self.inside.places.entries in
    let new = (c.get_mut.follows.lender c.args.last).entries in
    elim c.match-get_mut.branch [
      | in-Some w ↦
          let some : IsSome (lookup (is_at (place_cmp c.args.place.now)) c.self.inside.places.entries) = subst (λ (o : Option ℕ). IsSome o) w.in-Some.ensures.value refl in
          rw w.self-inside-is
          (subst (λ (m : Marks). PutsLast place c.args.last m.places new) c.self.view_is (λ q. put_at place_cmp place c.args.last es new ((c.get_mut.follows.holds c.args.last).3 some).0 places_exact 0 q))
      | in-None w ↦ rw w.self-inside-is (λ q. inl (ap (λ m. last_at m.entries q) c.get_mut.follows.holds-at-none ∙ ap (λ (m : Marks). last_at m.places q) c.self.view_is))
    ]

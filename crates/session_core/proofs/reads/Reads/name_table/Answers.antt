use Rattle.std.proofs.Common.{◌≡◌, ◌^◌, ◌-◌, ℕ, None, List, [], ◌∷◌, ◌++◌, is_some, sym, ap, subst, ◌∙◌}
use Rattle.std.specs.BTreeMap.{is_at}
use Rattle.std.specs.Map.{keys_of, lookup}
use Rattle.tuple_bytes.specs.Order.{name_cmp}
use Rattle.tuple_bytes.proofs.Exact.{names_exact}
use Rattle.session_model.specs.declared.place.Place.TheVariants.{Existence}
use Rattle.session_model.specs.Conflicts.{AreSameReads}
use Rattle.session_core.specs.Noted.{Firsts, IsNamed, IsRead, Marks, first_at}
use Rattle.session_core.proofs.Lasts.{table_more}
use Rattle.session_core.proofs.Puts.{put_none}
use Rattle.session_core.proofs.reads.Reads.name_table.Goals as goal

pub returns-clause-value : goal.returns-clause-value
returns-clause-value c =
    let old = keys_of c.args.self.now.places in
    subst (λ (m : Marks). AreSameReads (keys_of m.places) (old ++ Existence c.args.table.now ∷ [])) (sym c.self.view_is)
    (subst (λ (t : List ℕ). AreSameReads (keys_of c.add.new.self.places) (old ++ Existence t ∷ [])) c.in_ok-table.ensures.value c.in_ok-add.ensures.value)

pub returns-clause-firsts : goal.returns-clause-firsts
returns-clause-firsts c = λ q.
    let name = c.in_ok-name.name in
    let es = c.self.inside.tables.entries in
    let same : c.self.inside.tables.entries ≡ c.args.self.now.tables = ap (λ (m : Marks). m.tables) c.self.view_is ∙ c.add.ensures.tables in
    let none : lookup (is_at (name_cmp c.in_ok-name.name)) c.self.inside.tables.entries ≡ None =
    subst (λ (l : Firsts). lookup (is_at (name_cmp name)) l ≡ None) (sym same) (subst (λ (t : List ℕ). lookup (is_at (name_cmp t)) c.args.self.now.tables ≡ None) (sym c.in_ok-name.ensures.value) c.requires.new) in
    put_none name_cmp name (2 ^ 64 - 1) es c.insert.new.self.entries c.in_ok-insert.ensures.updates.0 names_exact none q
    ∙ ap (λ (l : Firsts). first_at l q) same

pub returns-clause-named : goal.returns-clause-named
returns-clause-named c = subst (λ (t : List ℕ). IsNamed c.insert.new.self.entries t) c.in_ok-name.ensures.value (ap is_some c.in_ok-insert.ensures.updates.1)

pub invariant_of-self-2 : goal.invariant_of-self-2
invariant_of-self-2 c =
    let name = c.in_ok-name.name in
    let same : c.in_ok-table.table ≡ c.in_ok-name.name = c.in_ok-table.ensures.value ∙ sym c.in_ok-name.ensures.value in
    let read : IsRead c.self.inside.places.entries (Existence c.in_ok-name.name) =
    subst (λ (m : Marks). IsRead m.places (Existence name)) (sym c.self.view_is) (subst (λ (t : List ℕ). IsRead c.add.new.self.places (Existence t)) same c.in_ok-add.ensures.read) in
    table_more c.self.inside.places.entries name (2 ^ 64 - 1) c.self.inside.tables.entries c.insert.new.self.entries c.in_ok-insert.ensures.updates.0 read c.self.invariant

use Rattle.std.proofs.Common.{[], ◌∷◌, ◌++◌, is_some, sym, ap, subst, ◌∙◌}
use Rattle.std.specs.Map.{keys_of}
use Rattle.std.specs.Option.{option_copied}
use Rattle.session_model.specs.declared.place.Place.TheVariants.{Existence}
use Rattle.session_model.specs.Conflicts.{AreSameReads}
use Rattle.session_core.specs.Noted.{IsNamed, Marks}
use Rattle.session_core.proofs.SameReads.{there_reads}
use Rattle.session_core.proofs.reads.Reads.add_existence.Goals as goal

pub returns-in-Some-clause-value : goal.returns-in-Some-clause-value
returns-in-Some-clause-value c =
    let table = c.args.table.now in
    let named : IsNamed c.self.inside.tables.entries c.args.table.now = ap is_some (sym c.get.ensures.value ∙ ap option_copied c.in-Some.is) in
    subst (λ (m : Marks). AreSameReads (keys_of m.places) (keys_of m.places ++ Existence table ∷ [])) c.self.view_is
    (there_reads (Existence table) c.self.inside.places.entries (c.self.invariant table named))

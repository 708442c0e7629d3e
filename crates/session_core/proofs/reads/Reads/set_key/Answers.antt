use Rattle.std.proofs.Common.{[], ◌∷◌, ◌++◌, subst}
use Rattle.std.specs.Map.{keys_of}
use Rattle.session_model.specs.declared.place.Place.{Place}
use Rattle.session_model.specs.declared.place.Place.TheVariants.{Key, Existence}
use Rattle.session_model.specs.Conflicts.{AreSameReads}
use Rattle.session_core.proofs.SameReads.{two_more}
use Rattle.session_core.proofs.reads.Reads.set_key.Goals as goal

pub returns-clause-value : goal.returns-clause-value
returns-clause-value c =
    let between = keys_of c.add_existence.new.self.places in
    let new = keys_of c.set.new.self.places in
    two_more (keys_of c.args.self.now.places) between new (Existence c.args.table.now) (Key c.args.table.now c.args.key.now) c.in_ok-creates_from.ensures.value
    (subst (λ (p : Place). AreSameReads new (between ++ p ∷ [])) c.in_ok-place.ensures.value c.in_ok-changes_to.ensures.value)

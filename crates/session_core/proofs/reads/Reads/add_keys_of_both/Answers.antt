use Rattle.std.proofs.Common.{[], ◌∷◌}
use Rattle.std.specs.Map.{keys_of}
use Rattle.session_index.proofs.Noting.{on_ok}
use Rattle.session_model.specs.declared.place.Place.TheVariants.{Keys, Existence}
use Rattle.session_core.proofs.SameReads.{more_behind}
use Rattle.session_core.proofs.reads.Reads.add_keys_of_both.Goals as goal

pub returns-clause-value : goal.returns-clause-value
returns-clause-value c =
    let between = keys_of c.add_keys.new.self.places in
    let new = keys_of c.add_keys-2.new.self.places in
    on_ok c.add_keys-2.result (more_behind (keys_of c.args.self.now.places) between new (Existence c.args.left.now ∷ Keys c.args.left.now ∷ []) (Existence c.args.right.now ∷ Keys c.args.right.now ∷ []) c.in_ok-add_keys.ensures.value) c.add_keys-2.ensures.value

use Rattle.std.proofs.Common.{OnOk, [], ◌∷◌, ◌++◌, subst}
use Rattle.std.specs.Map.{keys_of}
use Rattle.tuple_bytes.specs.declared.value.Value.{Value}
use Rattle.session_model.specs.declared.place.Place.TheVariants.{Key, Existence}
use Rattle.session_model.specs.Conflicts.{AreSameReads}
use Rattle.session_core.proofs.reads.Reads.set_row.Goals as goal

pub returns-clause-value : goal.returns-clause-value
returns-clause-value c =
    subst (λ (k : Value). OnOk c.set_key.result (AreSameReads (keys_of c.set_key.new.self.places) (keys_of c.args.self.now.places ++ Existence c.args.table.now ∷ Key c.args.table.now k ∷ []))) c.key_or-key.ensures.value c.set_key.ensures.value

use Rattle.digest_model.specs.Layout.{first_era}
use Rattle.evidence_examine.proofs.EraPlaces.{AreTaken}
use Rattle.evidence_examine.proofs.places.eras_of.Given as goal

abbrev pub invariant-loop-era : goal.invariant-loop-era
invariant-loop-era l = AreTaken (first_era l.evidence.header) l.evidence.eras l.era-index l.eras

use Rattle.evidence_examine.proofs.EraPlaces.{places_are_named as law}
use Rattle.evidence_examine.proofs.laws.places_are_named.Goals as goal

pub returns : goal.returns
returns c = record { places = law }

use Rattle.evidence_examine.proofs.LawProofs.{right_places as law}
use Rattle.evidence_examine.proofs.laws.right_places_are_notarized.Goals as goal

pub returns : goal.returns
returns c = record { places = law }

use Rattle.evidence_examine.proofs.LawProofs.{other_granules as law}
use Rattle.evidence_examine.proofs.laws.other_granules_are_missing.Goals as goal

pub returns : goal.returns
returns c = record { granules = law }

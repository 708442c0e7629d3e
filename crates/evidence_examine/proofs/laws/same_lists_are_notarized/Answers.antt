use Rattle.evidence_examine.proofs.LawProofs.{same_lists as law}
use Rattle.evidence_examine.proofs.laws.same_lists_are_notarized.Goals as goal

pub returns : goal.returns
returns c = record { lists = law }

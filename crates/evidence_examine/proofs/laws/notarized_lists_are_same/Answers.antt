use Rattle.evidence_examine.proofs.LawProofs.{notarized_lists as law}
use Rattle.evidence_examine.proofs.laws.notarized_lists_are_same.Goals as goal

pub returns : goal.returns
returns c = record { lists = law }

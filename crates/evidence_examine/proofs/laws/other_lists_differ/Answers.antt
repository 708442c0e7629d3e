use Rattle.evidence_examine.proofs.LawProofs.{other_lists as law}
use Rattle.evidence_examine.proofs.laws.other_lists_differ.Goals as goal

pub returns : goal.returns
returns c = record { lists = law }

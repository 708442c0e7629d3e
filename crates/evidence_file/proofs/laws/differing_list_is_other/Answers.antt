use Rattle.evidence_file.proofs.ShownLaws.{differing_list}
use Rattle.evidence_file.proofs.laws.differing_list_is_other.Goals as goal

pub returns : goal.returns
returns c = record { lists = differing_list }

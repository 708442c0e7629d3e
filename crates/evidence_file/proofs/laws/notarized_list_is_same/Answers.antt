use Rattle.evidence_file.proofs.ShownLaws.{notarized_list}
use Rattle.evidence_file.proofs.laws.notarized_list_is_same.Goals as goal

pub returns : goal.returns
returns c = record { lists = notarized_list }

use Rattle.evidence_file.proofs.ShownLaws.{same_list}
use Rattle.evidence_file.proofs.laws.same_list_is_notarized.Goals as goal

pub returns : goal.returns
returns c = record { lists = same_list }

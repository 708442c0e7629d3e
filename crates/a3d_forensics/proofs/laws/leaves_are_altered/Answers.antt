use Rattle.a3d_forensics.proofs.Notarized.{all_listed, only_listed}
use Rattle.a3d_forensics.proofs.laws.leaves_are_altered.Goals as goal

pub returns : goal.returns
returns c = record {
  all = λ batches id h s era n g audit has inside altered. all_listed batches id h s era n audit has c.descent_has_altered.ensures g inside altered;
  only = λ batches id h s era n g audit has among. only_listed batches id h s era n audit has c.descent_is_altered.ensures g among;
}

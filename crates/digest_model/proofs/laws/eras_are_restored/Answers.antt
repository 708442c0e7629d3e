use Rattle.digest_model.proofs.Restored.{restore}
use Rattle.digest_model.proofs.laws.eras_are_restored.Goals as goal

pub returns : goal.returns
returns c = restore

use Rattle.store_world.proofs.Acknowledging.{steps_acknowledge}
use Rattle.store_world.proofs.laws.steps_acknowledge.Goals as goal

pub returns : goal.returns
returns c = steps_acknowledge

use Rattle.store_world.proofs.Acknowledging.{steps_append}
use Rattle.store_world.proofs.laws.steps_only_append.Goals as goal

pub returns : goal.returns
returns c = steps_append

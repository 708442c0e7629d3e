use Rattle.line_runs.proofs.Acknowledging.{acknowledged_stored}
use Rattle.line_runs.proofs.laws.acknowledged_is_stored.Goals as goal

pub returns : goal.returns
returns c = acknowledged_stored

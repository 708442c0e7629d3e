use Rattle.line_runs.proofs.Acknowledging.{runs_append}
use Rattle.line_runs.proofs.laws.runs_only_append.Goals as goal

pub returns : goal.returns
returns c = runs_append

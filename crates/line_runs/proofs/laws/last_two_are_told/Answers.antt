use Rattle.line_runs.proofs.LastTwo.{last_two_are_told}
use Rattle.line_runs.proofs.laws.last_two_are_told.Goals as goal

pub returns : goal.returns
returns c = last_two_are_told

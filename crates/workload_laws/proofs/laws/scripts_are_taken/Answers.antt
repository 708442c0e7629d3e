use Rattle.workload_laws.proofs.Taking.{scripts_are_taken}
use Rattle.workload_laws.proofs.laws.scripts_are_taken.Goals as goal

pub returns : goal.returns
returns c = scripts_are_taken

use Rattle.workload_laws.proofs.Reading.{scripts_are_read}
use Rattle.workload_laws.proofs.laws.scripts_are_read.Goals as goal

pub returns : goal.returns
returns c = scripts_are_read

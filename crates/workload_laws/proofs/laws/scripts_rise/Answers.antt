use Rattle.workload_laws.proofs.Rising.{scripts_rise}
use Rattle.workload_laws.proofs.laws.scripts_rise.Goals as goal

pub returns : goal.returns
returns c = scripts_rise

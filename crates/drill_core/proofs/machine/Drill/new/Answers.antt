use Rattle.drill_core.proofs.Ready.{at_start}
use Rattle.drill_core.proofs.machine.Drill.new.Goals as goal

pub returns-clause-value : goal.returns-clause-value
returns-clause-value c = at_start c.args.alloc c.args.limits c.new.result c.new-2.result c.new-3.result c.new-2.ensures.fresh c.new-3.ensures.fresh

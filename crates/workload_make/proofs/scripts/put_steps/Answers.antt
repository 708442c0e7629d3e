use Rattle.workload_make.proofs.Steps.{steps_go_on, steps_end}
use Rattle.workload_make.specs.Progress.{progress_of}
use Rattle.workload_make.proofs.scripts.put_steps.Goals as goal

pub loop-step-preserved : goal.loop-step-preserved
loop-step-preserved c = steps_go_on c.args.count c.loop-step.step c.args.width _ _ _ _ _ c.loop-step-test.true c.loop-step.invariant c.in_ok-put_step.ensures.ok c.in_ok-put_step.ensures.after

pub returns : goal.returns
returns c = record { ok = steps_end c.args.count c.loop-step.step c.args.width (progress_of c.loop-step.maker) _ _ c.loop-step-test.false c.loop-step.invariant }

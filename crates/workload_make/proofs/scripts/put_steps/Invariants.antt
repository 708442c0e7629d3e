use Rattle.std.proofs.Common.{◌≡◌, ◌++◌, ◌-◌}
use Rattle.workload_make.specs.Script.{lines_text, steps}
use Rattle.workload_make.specs.Progress.{progress_of}
use Rattle.workload_make.proofs.scripts.put_steps.Given as goal

abbrev pub invariant-loop-step : goal.invariant-loop-step
invariant-loop-step l =
    l.out.items ++ lines_text (steps (l.count - l.step) l.width (progress_of l.maker))
    ≡ l.fn.out.items ++ lines_text (steps l.count l.width (progress_of l.fn.maker))

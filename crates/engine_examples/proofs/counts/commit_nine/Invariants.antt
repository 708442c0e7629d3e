use Rattle.std.proofs.Common.{◌≤◌, ◌+◌, ◌*◌}
use Rattle.engine_examples.proofs.counts.commit_nine.Given as goal

abbrev pub invariant-loop-key : goal.invariant-loop-key
invariant-loop-key g l = l.steps ≤ l.fn.steps + 2 * l.key

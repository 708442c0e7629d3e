use Rattle.std.proofs.Common.{◌≡◌, drop}
use Rattle.evidence_file.specs.Evidence.{ascend}
use Rattle.evidence_file.proofs.consistent.ascend.Given as goal

abbrev pub invariant-loop-entry : goal.invariant-loop-entry
invariant-loop-entry l = ascend l.from (drop l.entry-index l.entries) ≡ ascend 0 l.entries

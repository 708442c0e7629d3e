use Rattle.std.proofs.Common.{◌≡◌, ◌≤◌, take}
use Rattle.file_findings.specs.Tail.{filled}
use Rattle.file_findings.proofs.tail.filled.Given as goal

-- those of the bytes so far
abbrev pub invariant-loop-i : goal.invariant-loop-i
invariant-loop-i l = record { value : l.count ≡ filled (take l.i l.bytes); few : l.count ≤ l.i }

use Rattle.std.proofs.Common.{◌≡◌, take}
use Rattle.file_findings.specs.Lines.{of_kind}
use Rattle.file_findings.proofs.printing.of_kind.Given as goal

-- those of the findings so far
abbrev pub invariant-loop-found : goal.invariant-loop-found
invariant-loop-found l = l.some.items ≡ of_kind l.kind (take l.found-index l.all)

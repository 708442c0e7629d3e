use Rattle.std.proofs.Common.{◌≡◌, take}
use Rattle.std.specs.List.{flat_map}
use Rattle.file_findings.specs.Kinds.{all_kinds}
use Rattle.file_findings.specs.Lines.{kind_lines}
use Rattle.file_findings.proofs.printing.report.Given as goal

-- the lines of the kinds so far
abbrev pub invariant-loop-kind : goal.invariant-loop-kind
invariant-loop-kind l = l.text.bytes.items ≡ flat_map (kind_lines l.all) (take l.kind-index all_kinds)

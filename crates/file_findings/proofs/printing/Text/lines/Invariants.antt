use Rattle.std.proofs.Common.{◌≡◌, ◌++◌, take}
use Rattle.std.specs.List.{flat_map}
use Rattle.file_findings.specs.Lines.{line_of}
use Rattle.file_findings.proofs.printing.Text.lines.Given as goal

-- the lines so far
abbrev pub invariant-loop-found : goal.invariant-loop-found
invariant-loop-found l = l.self.bytes.items ≡ l.initial.self.bytes.items ++ flat_map line_of (take l.found-index l.some)

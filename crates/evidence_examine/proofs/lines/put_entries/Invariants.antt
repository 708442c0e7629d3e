use Rattle.std.proofs.Common.{◌≡◌, ◌++◌, drop}
use Rattle.std.specs.List.{flat_map}
use Rattle.evidence_examine.specs.Judging.{judged_line}
use Rattle.evidence_examine.proofs.lines.put_entries.Given as goal

abbrev pub invariant-loop-judged : goal.invariant-loop-judged
invariant-loop-judged l = l.out.items ++ flat_map judged_line (drop l.judged-index l.all) ≡ l.fn.out.items ++ flat_map judged_line l.all

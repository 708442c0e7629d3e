use Rattle.std.proofs.Common.{◌≡◌, ◌≤◌, take}
use Rattle.std.specs.List.{count_by}
use Rattle.evidence_examine.specs.Judging.{is_other}
use Rattle.evidence_examine.proofs.lines.count_others.Given as goal

abbrev pub invariant-loop-judged : goal.invariant-loop-judged
invariant-loop-judged l = record { counted : l.count ≡ count_by is_other (take l.judged-index l.all); few : l.count ≤ l.judged-index }

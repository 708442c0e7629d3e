use Rattle.std.proofs.Common.{◌≡◌, map, take}
use Rattle.inspect_call.specs.Gathered.{judged}
use Rattle.inspect_call.proofs.gathering.store_findings.Given as goal

-- those so far
abbrev pub invariant-loop-finding : goal.invariant-loop-finding
invariant-loop-finding l = l.found.items ≡ map (judged l.lost) (take l.finding-index l.store.findings.items)

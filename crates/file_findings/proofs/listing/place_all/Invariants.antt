use Rattle.std.proofs.Common.{◌≡◌, ◌++◌, take}
use Rattle.file_findings.specs.Placed.{placed}
use Rattle.file_findings.proofs.listing.place_all.Given as goal

-- those so far
abbrev pub invariant-loop-finding : goal.invariant-loop-finding
invariant-loop-finding l = l.found.items ≡ l.initial.found.items ++ placed l.device (take l.finding-index l.more)

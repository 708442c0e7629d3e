use Rattle.std.proofs.Common.{◌≡◌, take}
use Rattle.file_findings.specs.Along.{found_along}
use Rattle.inspect_call.specs.Both.{unsealed_era}
use Rattle.inspect_call.proofs.both.unsealed_eras.Given as goal

-- those of the eras so far
abbrev pub invariant-loop-n : goal.invariant-loop-n
invariant-loop-n l = l.found.items ≡ found_along (unsealed_era l.sealed) (take l.n l.eras.later)

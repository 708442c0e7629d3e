use Rattle.std.proofs.Common.{◌≡◌, ◌||◌, take, map}
use Rattle.std.specs.List.{list_any}
use Rattle.policy_eras.specs.Policy.{as_era, is_hashed}
use Rattle.policy_eras.proofs.finding.has_leaves_in.Given as goal

-- whether those of one so far are
abbrev pub invariant-loop-era : goal.invariant-loop-era
invariant-loop-era l = l.found ≡ (is_hashed (as_era l.fn.first) || list_any is_hashed (map as_era (take l.era-index l.later)))

use Rattle.std.proofs.Common.{◌≡◌, ◌≤◌, take, map, length, filter}
use Rattle.digest_model.specs.Eras.{is_below}
use Rattle.policy_eras.specs.Policy.{as_era}
use Rattle.policy_eras.proofs.finding.count_below.Given as goal

-- those so far are counted, one each at most
abbrev pub invariant-loop-era : goal.invariant-loop-era
invariant-loop-era l = (l.count ≡ length (filter (is_below l.tiles) (map as_era (take l.era-index l.later)))) × (l.count ≤ l.era-index)

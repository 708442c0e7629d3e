use Rattle.std.proofs.Common.{◌≡◌, take}
use Rattle.std.specs.List.{flat_map}
use Rattle.inspect_call.specs.Both.{unsealed_frontier}
use Rattle.inspect_call.proofs.both.unsealed_frontiers.Given as goal

-- those so far
abbrev pub invariant-loop-tiles : goal.invariant-loop-tiles
invariant-loop-tiles l = l.found.items ≡ flat_map (unsealed_frontier l.sealed) (take l.tiles-index l.filed)

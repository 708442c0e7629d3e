use Rattle.std.proofs.Common.{◌≡◌, map}
use Rattle.std.specs.List.{range_with_len}
use Rattle.digest_model.specs.Layout.{layout_by, end_granule}
use Rattle.cumulative_chain.proofs.tiles.ends_of.Given as goal

abbrev pub invariant-loop-tile : goal.invariant-loop-tile
invariant-loop-tile l = l.ends.items ≡ map (end_granule (layout_by l.eras)) (range_with_len 0 l.tile)

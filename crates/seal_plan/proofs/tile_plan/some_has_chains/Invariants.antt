use Rattle.std.proofs.Common.{◌≡◌, ℕ, ◌<◌, false}
use Rattle.digest_model.specs.Layout.{layout_by, has_tile_chains}
use Rattle.seal_plan.proofs.tile_plan.some_has_chains.Given as goal

abbrev pub invariant-loop-tile : goal.invariant-loop-tile
invariant-loop-tile l = (k : ℕ) → k < l.tile → has_tile_chains (layout_by l.eras) k ≡ false

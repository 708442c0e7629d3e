use Rattle.std.proofs.Common.{◌≡◌}
use Rattle.history_model.specs.History.{History}
use Rattle.digest_model.specs.Layout.{layout, policy_of, first_granule, has_tile_chains}
use Rattle.tile_seals.specs.Places.{leaves_of, planned_parts}
use Rattle.seal_plan.specs.Plan.{SomeTile}
use Rattle.seal_plan.proofs.tile_plan.parts_over.Given as goal

abbrev pub invariant-loop-tile : goal.invariant-loop-tile
invariant-loop-tile l = (h : History) → l.eras ≡ policy_of h → (SomeTile has_tile_chains (layout h) l.tiles → l.granules ≡ leaves_of h (first_granule (layout h) l.tiles)) → l.parts ≡ planned_parts h l.tile

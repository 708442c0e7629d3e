use Rattle.std.proofs.Common.{◌≡◌}
use Rattle.history_model.specs.History.{History}
use Rattle.digest_model.specs.Layout.{layout, policy_of, first_granule}
use Rattle.tile_seals.specs.Places.{leaves_of, planned_forests}
use Rattle.seal_plan.proofs.tree_plan.grow_over.Given as goal

abbrev pub invariant-loop-tile : goal.invariant-loop-tile
invariant-loop-tile l = (h : History) → l.eras ≡ policy_of h → l.granules ≡ leaves_of h (first_granule (layout h) l.tiles) → l.fn.forests ≡ planned_forests h 0 → l.forests ≡ planned_forests h l.tile

use Rattle.std.proofs.Common.{◌≡◌, ℕ, ◌<◌, false}
use Rattle.digest_model.specs.Layout.{layout_by, has_tree}
use Rattle.seal_plan.proofs.tree_plan.some_has_tree.Given as goal

abbrev pub invariant-loop-tile : goal.invariant-loop-tile
invariant-loop-tile l = (k : ℕ) → k < l.tile → has_tree (layout_by l.eras) k ≡ false

-- Tiles without the tree add no node.
use Rattle.std.proofs.Common.{◌≡◌, ℕ, zero, suc, ◌+◌, ◌<◌, false, refl, ap, ◌∙◌, arith}
use Rattle.history_model.specs.History.{History}
use Rattle.digest_model.specs.Layout.{layout, has_tree}
use Rattle.tile_seals.specs.Places.{planned_forests}
use Rattle.tile_seals.proofs.Planting.{all_stay}

pub bare : (h : History) (n : ℕ) → ((tile : ℕ) → tile < n → has_tree (layout h) tile ≡ false) → planned_forests h 0 ≡ planned_forests h n
bare h zero none = refl
bare h (suc n) none =
    let next : n + 1 ≡ suc n = omega arith in
    bare h n (λ tile below. none tile (omega (arith, below))) ∙ all_stay h n (none n (omega arith)) ∙ ap (planned_forests h) next

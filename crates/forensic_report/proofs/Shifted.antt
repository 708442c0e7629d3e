-- First granules of tiles, one before another.
use Rattle.std.proofs.Common.{◌≡◌, ℕ, ◌+◌, ◌-◌, ◌<◌, ◌≤◌, sym, ap, ◌∙◌, arith}
use Rattle.digest_model.specs.Layout.{Layout, first_granule, end_granule}
use Rattle.digest_model.proofs.Layouts.{adjoin, ascends, counts}

module _ (l : Layout) where
  pub earlier : (first tiles : ℕ) → first ≤ tiles → first_granule l first ≤ first_granule l tiles
  earlier first tiles le = ascends l first tiles le

  pub some_before : (tiles : ℕ) → 0 < tiles → 0 < first_granule l tiles
  some_before tiles some = omega (arith, some, counts l tiles)

  -- so many tiles end where the last one does
  pub last_ends : (tiles : ℕ) → 0 < tiles → first_granule l tiles ≡ end_granule l (tiles - 1)
  last_ends tiles some = (let one : tiles ≡ tiles - 1 + 1 = omega (arith, some) in ap (first_granule l) one ∙ sym (adjoin l (tiles - 1)))

use Rattle.std.proofs.Common.{◌≡◌, ℕ, ◌+◌, ◌-◌, ◌≤◌, refl, ap, ◌∙◌, arith}
use Rattle.history_model.specs.History.{History}
use Rattle.digest_model.specs.Layout.{Layout, layout, first_granule}
use Rattle.digest_model.proofs.Layouts as layouts
use Rattle.policy_eras.proofs.Histories.{layout_is}
use Rattle.a3d_forensics.specs.Trees.{tiles_before, tree_of}
use Rattle.a3d_forensics.proofs.EraTrees.{end_is}
use Rattle.a3d_forensics.proofs.Ranges.{splits, up}
use Rattle.a3d_forensics.proofs.range.tree_of.Goals as goal

-- so many granules lie before an era
counted : (h : History) {l : Layout} {tiles before granules : ℕ} (n era : ℕ) → l ≡ layout h → tiles ≡ n → before ≡ tiles_before (layout h) tiles era → granules ≡ first_granule l before
    → granules ≡ first_granule (layout h) (tiles_before (layout h) n era)
counted h {l} {tiles} {before} n era same many lie is =
    is ∙ ap (λ (m : Layout). first_granule m before) same ∙ ap (first_granule (layout h)) (lie ∙ ap (λ (m : ℕ). tiles_before (layout h) m era) many)

few : (h : History) (n era : ℕ) → first_granule (layout h) (tiles_before (layout h) n era) ≤ first_granule (layout h) n
few h n era = layouts.ascends (layout h) (tiles_before (layout h) n era) n (splits (layout h) n era).within

pub overflow_cast-first : goal.overflow_cast-first
overflow_cast-first c =
    let h = c.args.plan.now.history in
    let is = counted h c.args.plan.now.tiles c.args.era (layout_is h c.eras-eras.ensures.value) c.tiles.ensures.value (c.tiles_before.ensures.value h c.eras-eras.ensures.value) c.first-first.ensures.value in
    let low = few h c.args.plan.now.tiles c.args.era in
    let small = c.tiles.ensures.within in
    omega (arith, is, low, small)

pub overflow_cast-end : goal.overflow_cast-end
overflow_cast-end c =
    let h = c.args.plan.now.history in
    let is = counted h c.args.plan.now.tiles (c.args.era + 1) (layout_is h c.eras-eras.ensures.value) c.tiles-2.ensures.value (c.tiles_before-2.ensures.value h c.eras-eras.ensures.value) c.first-end.ensures.value in
    let low = few h c.args.plan.now.tiles (c.args.era + 1) in
    let small = c.tiles.ensures.within in
    omega (arith, is, low, small)

pub overflow_sub-result : goal.overflow_sub-result
overflow_sub-result c =
    let h = c.args.plan.now.history in
    let begin = counted h c.args.plan.now.tiles c.args.era (layout_is h c.eras-eras.ensures.value) c.tiles.ensures.value (c.tiles_before.ensures.value h c.eras-eras.ensures.value) c.first-first.ensures.value in
    let end = counted h c.args.plan.now.tiles (c.args.era + 1) (layout_is h c.eras-eras.ensures.value) c.tiles-2.ensures.value (c.tiles_before-2.ensures.value h c.eras-eras.ensures.value) c.first-end.ensures.value in
    let le = layouts.ascends (layout h) (tiles_before (layout h) c.args.plan.now.tiles c.args.era) (tiles_before (layout h) c.args.plan.now.tiles (c.args.era + 1)) (up (layout h) c.args.plan.now.tiles c.args.era) in
    omega (arith, begin, end, le)

pub returns : goal.returns
unfolding tree_of
returns c =
    let h = c.args.plan.now.history in
    let begin = counted h c.args.plan.now.tiles c.args.era (layout_is h c.eras-eras.ensures.value) c.tiles.ensures.value (c.tiles_before.ensures.value h c.eras-eras.ensures.value) c.first-first.ensures.value in
    let end = counted h c.args.plan.now.tiles (c.args.era + 1) (layout_is h c.eras-eras.ensures.value) c.tiles-2.ensures.value (c.tiles_before-2.ensures.value h c.eras-eras.ensures.value) c.first-end.ensures.value in
    let sum = end_is (layout h) c.args.plan.now.tiles c.args.era in
    rw begin (rw (tail (first_granule (layout h) (tiles_before (layout h) c.args.plan.now.tiles c.args.era)) c.first-end.result _ end sum) refl)
  where
    tail : (first end granules : ℕ) {limit : ℕ} → end ≡ limit → first + granules ≡ limit → end - first ≡ granules
    tail first end granules is sum = omega (arith, is, sum)

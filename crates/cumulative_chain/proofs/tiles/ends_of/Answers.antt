use Rattle.std.proofs.Common.{ℕ, ◌+◌, ◌<◌, ◌≤◌, List, [], ◌∷◌, ◌++◌, map, sym, ap, ◌∙◌, arith}
use Rattle.std.specs.List.{range_with_len}
use Rattle.std.proofs.lemmas.List.FromFn.{map-range_with_len_more}
use Rattle.digest_model.proofs.Layouts as layouts
use Rattle.digest_model.specs.Layout.{Layout, layout_by, first_granule, end_granule}
use Rattle.cumulative_chain.proofs.tiles.ends_of.Goals as goal

-- so many tiles end below the last granule
ends_within : (l : Layout) (tile tiles : ℕ) → tile < tiles → first_granule l tiles ≤ 1048576 → first_granule l (tile + 1) ≤ 1048576
ends_within l tile tiles below within = (let up = layouts.ascends l (tile + 1) tiles (omega arith) in omega (arith, up, within))

pub overflow_cast-first : goal.overflow_cast-first
overflow_cast-first c = (let is = c.first.ensures.value in let within = ends_within (layout_by c.args.eras.now) c.loop-tile.tile c.args.tiles (omega arith) c.requires.within in omega (arith, is, within))

pub loop-tile-preserved : goal.loop-tile-preserved
loop-tile-preserved c =
    let l = layout_by c.args.eras.now in
    let tile = c.loop-tile.tile in
    c.in_ok-push.ensures.items
    ∙ ap (λ (x : List ℕ). x ++ c.first.result ∷ []) c.loop-tile.invariant
    ∙ ap (λ (v : ℕ). map (end_granule l) (range_with_len 0 tile) ++ v ∷ []) (c.first.ensures.value ∙ sym (layouts.adjoin l tile))
    ∙ sym (map-range_with_len_more (end_granule l) 0 tile tile (omega arith))

-- The ends of the first tiles.
use Rattle.std.proofs.Common.{◌≡◌, ℕ, zero, suc, ◌+◌, ◌-◌, ◌<◌, List, [], ◌∷◌, length, map, refl, ap, ◌∙◌, sym, arith}
use Rattle.std.specs.Prelude.{slice_index}
use Rattle.std.specs.List.{range_with_len}
use Rattle.std.proofs.lemmas.List.FromFn.{length-map-range_with_len, get_or-map-range_with_len}
use Rattle.tuple_bytes.specs.declared.header.Header.{Header}
use Rattle.digest_model.proofs.Layouts as layouts
use Rattle.digest_model.specs.Layout.{Layout, first_granule, end_granule}
use Rattle.cumulative_chain.specs.Tiles.{Granule, Ascend, last_end, link_below, link_at}

module _ (l : Layout) (tiles : ℕ) where
  abbrev ends : List ℕ
  ends = map (end_granule l) (range_with_len 0 tiles)

  at : (i : ℕ) → i < tiles → slice_index ends i ≡ first_granule l (i + 1)
  at i below = get_or-map-range_with_len (end_granule l) 0 tiles i i 0 below (omega arith) ∙ layouts.adjoin l i

  pub ends_ascend : Ascend ends
  ends_ascend i j le below =
      let many = length-map-range_with_len (end_granule l) 0 tiles in
      let low = at i (omega (arith, many, le, below)) in
      let high = at j (omega (arith, many, below)) in
      let up = layouts.ascends l (i + 1) (j + 1) (omega (arith, le)) in
      omega (arith, low, high, up)

pub ends_last : (l : Layout) (tiles : ℕ) → last_end (map (end_granule l) (range_with_len 0 tiles)) ≡ first_granule l tiles
ends_last l zero = sym (layouts.begins l)
ends_last l (suc n) =
    let many = length-map-range_with_len (end_granule l) 0 (suc n) in
    let place : length (map (end_granule l) (range_with_len 0 (suc n))) - 1 ≡ n = omega (arith, many) in
    let next : n + 1 ≡ suc n = omega arith in
    ap (slice_index (map (end_granule l) (range_with_len 0 (suc n)))) place ∙ at l (suc n) n (omega arith) ∙ ap (first_granule l) next

links_in : (header : Header) (l : Layout) (granules : List Granule) (tiles : List ℕ) → map (link_below header granules) (map (end_granule l) tiles) ≡ map (link_at header l granules) tiles
links_in header l granules [] = refl
links_in header l granules (tile ∷ tiles) = ap (λ (links : List (List ℕ)). link_at header l granules tile ∷ links) (links_in header l granules tiles)

pub links_of_tiles : (header : Header) (l : Layout) (granules : List Granule) (tiles : ℕ)
    → map (link_below header granules) (map (end_granule l) (range_with_len 0 tiles)) ≡ map (link_at header l granules) (range_with_len 0 tiles)
links_of_tiles header l granules tiles = links_in header l granules (range_with_len 0 tiles)

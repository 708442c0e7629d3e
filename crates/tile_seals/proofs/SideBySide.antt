-- The parts of tiles, over the digests of their granules.
use Rattle.std.proofs.Common.{◌≡◌, ℕ, zero, suc, ◌+◌, ◌-◌, ◌*◌, ◌^◌, ◌<◌, ◌≤◌, Bool, true, cond, List, [], ◌∷◌, ◌++◌, length, get_or, map, Some, refl, sym, ap, subst, ◌∙◌, inl, inr, arith}
use Rattle.std.specs.List.{flat_map, range_with_len, slice_get}
use Rattle.std.proofs.lemmas.Bool.{cases_Bool}
use Rattle.std.proofs.lemmas.Nat.{pow_pos}
use Rattle.std.proofs.lemmas.Option.{slice_get-get_or}
use Rattle.std.proofs.lemmas.List.{append-nil, append_assoc, length-append, get_or_append_left, get_or-append-add}
use Rattle.std.proofs.lemmas.List.Concat.{flat_map-append}
use Rattle.std.proofs.lemmas.List.FromFn.{length-map-range_with_len, get_or-map-range_with_len, map-range_with_len_more}
use Rattle.history_model.specs.History.{History}
use Rattle.digest_model.specs.Layout.{layout, exponent, first_granule, tile_size, has_tile_chains, is_in_part, numbers_in_part, part_granules}
use Rattle.digest_model.specs.Digests.{granule_digest, part_over, part_digests, tile_digest}
use Rattle.digest_model.proofs.Lists.{range_more}
use Rattle.digest_model.proofs.Layouts.{adjoin}
use Rattle.digest_model.proofs.Nodes.{twice}
use Rattle.tile_chains.specs.Part.{digest_at, digests_among, digests_in_part}
use Rattle.tile_seals.specs.Places.{leaves_in, part_at, parts_of, parts_in, parts_below, parts_start}
use Rattle.tile_seals.proofs.Ranges.{map-map, filtered_same}

pub size_in : (h : History) (tile : ℕ) → length (leaves_in h tile) ≡ tile_size (layout h) tile
size_in h tile = length-map-range_with_len (granule_digest h) (first_granule (layout h) tile) (tile_size (layout h) tile)

at_number : (h : History) (tile n : ℕ) → n < tile_size (layout h) tile → digest_at (leaves_in h tile) n ≡ granule_digest h (first_granule (layout h) tile + n)
at_number h tile n below = get_or-map-range_with_len (granule_digest h) (first_granule (layout h) tile) (tile_size (layout h) tile) n (first_granule (layout h) tile + n) [] below (omega arith)

pub part_is : (h : History) (tile part : ℕ) (own : List (List ℕ)) → own ≡ leaves_in h tile → part_over tile part (digests_in_part part own) ≡ tile_digest h tile part
unfolding tile_digest part_digests part_granules digests_among
part_is h tile part own is =
    ap (λ (x : List (List ℕ)). part_over tile part (map (digest_at x) (numbers_in_part part (length x)))) is
    ∙ ap (λ (n : ℕ). part_over tile part (map (digest_at (leaves_in h tile)) (numbers_in_part part n))) (size_in h tile)
    ∙ ap (part_over tile part)
    (filtered_same (is_in_part part) (digest_at (leaves_in h tile)) (λ (n : ℕ). granule_digest h (first_granule (layout h) tile + n)) 0 (tile_size (layout h) tile)
    (λ n from lt. at_number h tile n (omega (arith, lt)))
    ∙ sym (map-map (granule_digest h) (λ (n : ℕ). first_granule (layout h) tile + n) (numbers_in_part part (tile_size (layout h) tile))))

-- ---- side by side

module _ (h : History) where
  -- those of one tile more
  pub parts_more : (tile : ℕ) → parts_below h (tile + 1) ≡ parts_below h tile ++ parts_in h tile
  unfolding parts_below
  parts_more tile =
      ap (flat_map (parts_in h)) (range_more 0 tile tile (omega arith))
      ∙ flat_map-append (parts_in h) (range_with_len 0 tile) (tile ∷ [])
      ∙ ap (λ (x : List (List ℕ)). flat_map (parts_in h) (range_with_len 0 tile) ++ x) (append-nil (parts_in h tile))

  -- those of fewer tiles come first
  parts_begin : (a d : ℕ) → (rest : List (List ℕ)) × (parts_below h (a + d) ≡ parts_below h a ++ rest)
  parts_begin a zero = (let none : a + 0 ≡ a = omega arith in ([], rw none (sym (append-nil (parts_below h a)))))
  parts_begin a (suc d) =
      let r = parts_begin a d in
      let next : a + suc d ≡ a + d + 1 = omega arith in
      (r.0 ++ parts_in h (a + d), rw next (parts_more (a + d) ∙ ap (λ (x : List (List ℕ)). x ++ parts_in h (a + d)) r.1 ∙ append_assoc (parts_below h a) r.0 (parts_in h (a + d))))

  pub own_parts : (tile : ℕ) → has_tile_chains (layout h) tile ≡ true → parts_in h tile ≡ parts_of h tile
  own_parts tile has = ap (λ (b : Bool). cond b (parts_of h tile) []) has

  own_count : (tile : ℕ) → length (parts_of h tile) ≡ exponent (layout h) tile + 1
  own_count tile = length-map-range_with_len (λ (place : ℕ). tile_digest h tile (part_at place)) 0 (exponent (layout h) tile + 1)

  -- the part of a place of a tile
  pub part_there : (tiles tile place : ℕ) → tile < tiles → has_tile_chains (layout h) tile ≡ true → place ≤ exponent (layout h) tile
      → slice_get (parts_below h tiles) (parts_start h tile + place) ≡ Some (tile_digest h tile (part_at place))
  part_there tiles tile place below has low =
      let r = parts_begin (tile + 1) (tiles - (tile + 1)) in
      let all : tile + 1 + (tiles - (tile + 1)) ≡ tiles = omega (arith, below) in
      let split : parts_below h tiles ≡ parts_below h tile ++ (parts_of h tile ++ r.0) =
      subst (λ (n : ℕ). parts_below h n ≡ parts_below h tile ++ (parts_of h tile ++ r.0)) all
      (r.1 ∙ ap (λ (x : List (List ℕ)). x ++ r.0) (parts_more tile) ∙ append_assoc (parts_below h tile) (parts_in h tile) r.0
      ∙ ap (λ (x : List (List ℕ)). parts_below h tile ++ (x ++ r.0)) (own_parts tile has)) in
      let count = own_count tile in
      let long = length-append (parts_of h tile) r.0 in
      let longer = length-append (parts_below h tile) (parts_of h tile ++ r.0) in
      ap (λ (x : List (List ℕ)). slice_get x (parts_start h tile + place)) split
      ∙ slice_get-get_or (parts_below h tile ++ (parts_of h tile ++ r.0)) (parts_start h tile + place) [] (omega (arith, long, longer, count, low))
      ∙ ap (λ (x : List ℕ). Some x)
      (get_or-append-add (parts_below h tile) (parts_of h tile ++ r.0) place []
      ∙ get_or_append_left (parts_of h tile) r.0 [] place (omega (arith, count, low))
      ∙ get_or-map-range_with_len (λ (p : ℕ). tile_digest h tile (part_at p)) 0 (exponent (layout h) tile + 1) place place [] (omega (arith, low)) (omega arith))

  -- and where those of one tile more begin
  pub starts_more : (tile count : ℕ) (starts : List ℕ) → starts ≡ map (parts_start h) (range_with_len 0 tile) → count ≡ parts_start h tile → starts ++ count ∷ [] ≡ map (parts_start h) (range_with_len 0 (tile + 1))
  starts_more tile count starts are is =
      ap (λ (x : List ℕ). x ++ count ∷ []) are
      ∙ ap (λ (x : ℕ). map (parts_start h) (range_with_len 0 tile) ++ x ∷ []) is
      ∙ sym (map-range_with_len_more (parts_start h) 0 tile tile (omega arith))

  -- ---- they are no more than the granules

  powers : (k : ℕ) → k + 1 ≤ 2 ^ k
  powers zero = omega arith
  powers (suc k) = (let before = powers k in let double = twice k in let some = pow_pos k in omega (arith, before, double, some))

  few_in : (tile : ℕ) → length (parts_in h tile) ≤ tile_size (layout h) tile
  few_in tile = elim (cases_Bool (has_tile_chains (layout h) tile)) [
    | inl has ↦ (let own = ap length (own_parts tile has) ∙ own_count tile in let few = powers (exponent (layout h) tile) in omega (arith, own, few))
    | inr none ↦ (let own : length (parts_in h tile) ≡ 0 = ap (λ (b : Bool). length (cond b (parts_of h tile) [])) none in omega (arith, own))
  ]

  pub few_parts : (n : ℕ) → length (parts_below h n) ≤ first_granule (layout h) n
  unfolding parts_below
  few_parts zero = omega arith
  few_parts (suc n) =
      let before = few_parts n in
      let next : n + 1 ≡ suc n = omega arith in
      let more : length (parts_below h (suc n)) ≡ length (parts_below h n) + length (parts_in h n) =
      subst (λ (m : ℕ). length (parts_below h m) ≡ length (parts_below h n) + length (parts_in h n)) next (ap length (parts_more n) ∙ length-append (parts_below h n) (parts_in h n)) in
      let own = few_in n in
      let ends = subst (λ (m : ℕ). first_granule (layout h) n + tile_size (layout h) n ≡ first_granule (layout h) m) next (adjoin (layout h) n) in
      omega (arith, before, more, own, ends)

-- A batch may be filed: it is neither empty nor too long, and a notary takes its names.
use Rattle.std.proofs.Common.{◌≡◌, ℕ, zero, suc, ◌+◌, ◌-◌, ◌*◌, ◌/◌, ◌%◌, ◌^◌, ◌<◌, ◌≤◌, Bool, false, cond, List, [], ◌∷◌, ◌++◌, length, map, filter, refl, sym, ap, subst, ◌∙◌, ◌⊎◌, inl, inr, arith}
use Rattle.std.specs.Prelude.{nat_eq}
use Rattle.std.specs.List.{All, flat_map, range_with_len}
use Rattle.std.proofs.lemmas.Bool.{cases_Bool, cases_lt, ne_eqb}
use Rattle.std.proofs.lemmas.Nat.{pow_pos, pow-add, shl-shr, shr_split}
use Rattle.std.proofs.Math.Nat.{mul_assoc}
use Rattle.std.proofs.Math.Pow.{pow_mono}
use Rattle.std.proofs.lemmas.List.{length-map, length-append}
use Rattle.std.proofs.lemmas.List.FromFn.{length-map-range_with_len}
use Rattle.std.proofs.lemmas.List.Elements.{All-nil, All-cons, All-map}
use Rattle.notary_link.specs.declared.name.Name.TheVariants as names
use Rattle.notary_link.specs.declared.seal.Seal.{Seal}
use Rattle.notary_link.specs.Batches.{IsName, IsBatch}
use Rattle.history_model.specs.History.{History}
use Rattle.digest_model.specs.Layout.{Era, layout, exponent, tile_size, has_tile_chains, has_tree, is_none, turns, sealed_eras, era_of, era_start, leaf_start}
use Rattle.digest_model.specs.Laws.{HasSpelling}
use Rattle.digest_model.proofs.Eras.{exponents_fit, leaf_is, turns_are_few}
use Rattle.digest_model.proofs.Nodes.{twice}
use Rattle.audit_model.specs.Filing.{BatchesMayBeFiled, BatchesAreShort}
use Rattle.audit_model.specs.Names.{tile_names, node_name, node_ending_at, nodes_ending_at, node_names, era_names, tile_seals, sealed_names, batch_names, seal, batch}
use Rattle.audit_model.proofs.Filed.{each_sealed}

-- ---- how many nodes end at a granule

-- where no number from m on passes, at most those below pass
passing : (p : ℕ → Bool) (a n m : ℕ) → ((x : ℕ) → m ≤ x → p x ≡ false) → length (filter p (range_with_len a n)) ≤ m - a
passing p a zero m none = omega arith
passing p a (suc n) m none =
    let rest : length (filter p (range_with_len (a + 1) n)) ≤ m - (a + 1) = passing p (a + 1) n m none in
    elim (cases_lt a m) [
      | inl below ↦ elim (cases_Bool (p a)) [ inl passes ↦ grind (arith, passes, rest, below) | inr fails ↦ grind (arith, fails, rest, below) ]
      | inr above ↦ (let fails : p a ≡ false = none a above in grind (arith, fails, rest, above))
    ]

some_pass : (p : ℕ → Bool) (a n : ℕ) → length (filter p (range_with_len a n)) ≤ n
some_pass p a zero = omega arith
some_pass p a (suc n) =
    let rest : length (filter p (range_with_len (a + 1) n)) ≤ n = some_pass p (a + 1) n in
    elim (cases_Bool (p a)) [ inl passes ↦ grind (arith, passes, rest) | inr fails ↦ grind (arith, fails, rest) ]

odd_even : (q m : ℕ) → 2 * q + 1 ≡ m * 2 → ⊥
odd_even q m e = omega (arith, e)

-- an odd multiple of a power of two is no multiple of a higher one
odd_multiple : (q k level : ℕ) → k < level → ((2 * q + 1) * 2 ^ k) % 2 ^ level ≡ 0 → ⊥
odd_multiple q k level above none =
    let split = shr_split ((2 * q + 1) * 2 ^ k) level in
    let parts : level - k - 1 + 1 + k ≡ level = omega (arith, above) in
    let power : 2 ^ level ≡ 2 ^ (level - k - 1) * 2 * 2 ^ k = ap (λ (e : ℕ). 2 ^ e) (sym parts) ∙ pow-add 2 (level - k - 1 + 1) k ∙ ap (λ (e : ℕ). e * 2 ^ k) (pow-add 2 (level - k - 1) 1) in
    let multiple : (2 * q + 1) * 2 ^ k ≡ ((2 * q + 1) * 2 ^ k) / 2 ^ level * 2 ^ level = omega (arith, split, none) in
    let regrouped : ((2 * q + 1) * 2 ^ k) / 2 ^ level * 2 ^ level ≡ ((2 * q + 1) * 2 ^ k) / 2 ^ level * (2 ^ (level - k - 1) * 2) * 2 ^ k =
    ap (λ (e : ℕ). ((2 * q + 1) * 2 ^ k) / 2 ^ level * e) power ∙ sym (mul_assoc (((2 * q + 1) * 2 ^ k) / 2 ^ level) (2 ^ (level - k - 1) * 2) (2 ^ k)) in
    let even : 2 * q + 1 ≡ ((2 * q + 1) * 2 ^ k) / 2 ^ level * (2 ^ (level - k - 1) * 2) =
    sym (shl-shr (2 * q + 1) k) ∙ ap (λ (y : ℕ). y / 2 ^ k) (multiple ∙ regrouped) ∙ shl-shr (((2 * q + 1) * 2 ^ k) / 2 ^ level * (2 ^ (level - k - 1) * 2)) k in
    let twofold = mul_assoc (((2 * q + 1) * 2 ^ k) / 2 ^ level) (2 ^ (level - k - 1)) 2 in
    odd_even q (((2 * q + 1) * 2 ^ k) / 2 ^ level * 2 ^ (level - k - 1)) (even ∙ sym twofold)

at_odd : (era q k g : ℕ) → g + 1 ≡ (2 * q + 1) * 2 ^ k → length (nodes_ending_at era g) ≤ k + 1
unfolding nodes_ending_at
at_odd era q k g e =
    let mapped = length-map (filter (λ level. nat_eq ((g + 1) % 2 ^ level) 0) (range_with_len 0 21)) (node_ending_at era g) in
    let few = passing (λ level. nat_eq ((g + 1) % 2 ^ level) 0) 0 21 (k + 1)
    (λ level above. ne_eqb ((g + 1) % 2 ^ level) 0 (λ none. odd_multiple q k level (omega (arith, above)) (subst (λ (x : ℕ). x % 2 ^ level ≡ 0) e none))) in
    omega (arith, mapped, few)

at_any : (era g : ℕ) → length (nodes_ending_at era g) ≤ 21
unfolding nodes_ending_at
at_any era g =
    let mapped = length-map (filter (λ level. nat_eq ((g + 1) % 2 ^ level) 0) (range_with_len 0 21)) (node_ending_at era g) in
    let few = some_pass (λ level. nat_eq ((g + 1) % 2 ^ level) 0) 0 21 in
    omega (arith, mapped, few)

-- ---- how many end in a tile

-- the number of nodes whose last granule is among n from a on
ending : ℕ → ℕ → ℕ → ℕ
ending era a n = length (flat_map (nodes_ending_at era) (range_with_len a n))

ending_apart : (era a m n : ℕ) → ending era a (m + n) ≡ ending era a m + ending era (a + m) n
unfolding ending
ending_apart era a zero n = (let none : 0 + n ≡ n = omega arith in let place : a + 0 ≡ a = omega arith in rw (none, place) (omega arith))
ending_apart era a (suc m) n =
    let next : suc m + n ≡ suc (m + n) = omega arith in
    let place : a + suc m ≡ a + 1 + m = omega arith in
    let rest = ending_apart era (a + 1) m n in
    let left = length-append (nodes_ending_at era a) (flat_map (nodes_ending_at era) (range_with_len (a + 1) (m + n))) in
    let right = length-append (nodes_ending_at era a) (flat_map (nodes_ending_at era) (range_with_len (a + 1) m)) in
    rw (next, place) (omega (arith, left, right, rest))

ending_one : (era g : ℕ) → ending era g 1 ≡ length (nodes_ending_at era g)
unfolding ending
ending_one era g = (let e = length-append (nodes_ending_at era g) [] in omega (arith, e))

doubled_start : (t q p : ℕ) → q ≡ 2 * p → t * q ≡ 2 * t * p
doubled_start t q p e = rw e (omega arith)

next_start : (t p : ℕ) → 0 < p → t * p + (p - 1) + 1 ≡ (t + 1) * p
next_start t p some = omega (arith, some)

-- among the granules of a tile, but for the last
inner : (era k t : ℕ) → ending era (t * 2 ^ k) (2 ^ k - 1) + k + 2 ≤ 2 * 2 ^ k
unfolding ending
inner era zero t = omega arith
inner era (suc k) t =
    let some = pow_pos k in
    let double = twice k in
    let left = inner era k (2 * t) in
    let right = inner era k (2 * t + 1) in
    let count : 2 ^ suc k - 1 ≡ 2 ^ k - 1 + (1 + (2 ^ k - 1)) = omega (arith, double, some) in
    let start : t * 2 ^ suc k ≡ 2 * t * 2 ^ k = doubled_start t (2 ^ suc k) (2 ^ k) double in
    let middle : 2 * t * 2 ^ k + (2 ^ k - 1) + 1 ≡ (2 * t + 1) * 2 ^ k = next_start (2 * t) (2 ^ k) some in
    let first = ending_apart era (2 * t * 2 ^ k) (2 ^ k - 1) (1 + (2 ^ k - 1)) in
    let second = ending_apart era (2 * t * 2 ^ k + (2 ^ k - 1)) 1 (2 ^ k - 1) in
    let right_at : ending era (2 * t * 2 ^ k + (2 ^ k - 1) + 1) (2 ^ k - 1) ≡ ending era ((2 * t + 1) * 2 ^ k) (2 ^ k - 1) = ap (λ (a : ℕ). ending era a (2 ^ k - 1)) middle in
    let one = ending_one era (2 * t * 2 ^ k + (2 ^ k - 1)) in
    let few = at_odd era t k (2 * t * 2 ^ k + (2 ^ k - 1)) middle in
    rw (start, count) (omega (arith, double, some, left, right, first, second, right_at, one, few))

nodes_of_tile : (era k t : ℕ) → ending era (t * 2 ^ k) (2 ^ k) ≤ 2 * 2 ^ k + 19
nodes_of_tile era k t =
    let some = pow_pos k in
    let count : 2 ^ k - 1 + 1 ≡ 2 ^ k = omega (arith, some) in
    let apart = ending_apart era (t * 2 ^ k) (2 ^ k - 1) 1 in
    let whole_tile : ending era (t * 2 ^ k) (2 ^ k - 1 + 1) ≡ ending era (t * 2 ^ k) (2 ^ k) = ap (λ (n : ℕ). ending era (t * 2 ^ k) n) count in
    let one = ending_one era (t * 2 ^ k + (2 ^ k - 1)) in
    let few = at_any era (t * 2 ^ k + (2 ^ k - 1)) in
    let most = inner era k t in
    omega (arith, apart, whole_tile, one, few, most)

-- in the first tile of a tree no node ends that begins before it
nodes_of_first : (era k : ℕ) → ending era 0 (2 ^ k) ≤ 2 * 2 ^ k - 1
nodes_of_first era k =
    let some = pow_pos k in
    let count : 2 ^ k - 1 + 1 ≡ 2 ^ k = omega (arith, some) in
    let none : 0 * 2 ^ k ≡ 0 = omega arith in
    let start : 0 + (2 ^ k - 1) ≡ 2 ^ k - 1 = omega arith in
    let apart = ending_apart era 0 (2 ^ k - 1) 1 in
    let whole_tile : ending era 0 (2 ^ k - 1 + 1) ≡ ending era 0 (2 ^ k) = ap (λ (n : ℕ). ending era 0 n) count in
    let last : ending era (0 + (2 ^ k - 1)) 1 ≡ ending era (2 ^ k - 1) 1 = ap (λ (a : ℕ). ending era a 1) start in
    let one = ending_one era (2 ^ k - 1) in
    let odd : 2 ^ k - 1 + 1 ≡ (2 * 0 + 1) * 2 ^ k = omega (arith, count) in
    let few = at_odd era 0 k (2 ^ k - 1) odd in
    let most : ending era 0 (2 ^ k - 1) + k + 2 ≤ 2 * 2 ^ k = rw none at (inner era k 0) in
    omega (arith, apart, whole_tile, last, one, few, most)

-- ---- the batch

node_count : (h : History) (tile : ℕ) → exponent (layout h) tile ≤ 10 → length (cond (has_tree (layout h) tile) (node_names (layout h) tile) []) ≤ 2067
unfolding node_names ending
node_count h tile fits = elim (cases_Bool (has_tree (layout h) tile)) [
  | inl has ↦
      (let k = exponent (layout h) tile in
      let few : length (node_names (layout h) tile) ≤ 2 * 2 ^ exponent (layout h) tile + 19 =
      rw (leaf_is h tile) (nodes_of_tile (era_of (layout h) tile) (exponent (layout h) tile) (tile - era_start (layout h) tile)) in
      let size : 2 ^ exponent (layout h) tile ≤ 2 ^ 10 = pow_mono fits in
      rw has (omega (arith, few, size)))
  | inr has_not ↦ rw has_not (omega arith)
]

part_count : (h : History) (tile : ℕ) → exponent (layout h) tile ≤ 10 → length (cond (has_tile_chains (layout h) tile) (tile_names (layout h) tile) []) ≤ 11
unfolding tile_names
part_count h tile fits = elim (cases_Bool (has_tile_chains (layout h) tile)) [
  | inl has ↦ (let bits = length-map-range_with_len (λ bit. names.Tile tile bit) 0 (exponent (layout h) tile) in rw has (omega (arith, bits, fits)))
  | inr has_not ↦ rw has_not (omega arith)
]

-- at most 255 eras begin at a tile
era_count : (h : History) (tile : ℕ) → length (era_names (layout h) tile) ≤ 255
unfolding era_names
era_count h tile =
    let long = length-map-range_with_len names.Era (length (sealed_eras (layout h) tile) + 1) (length (turns (layout h) tile)) in
    let few = turns_are_few h tile in
    omega (arith, long, few)

sealed_count : (h : History) (tile : ℕ) → exponent (layout h) tile ≤ 10 → (1 ≤ length (sealed_names (layout h) tile)) × (length (sealed_names (layout h) tile) ≤ 4096)
unfolding sealed_names tile_seals
sealed_count h tile fits =
    let parts = part_count h tile fits in
    let nodes = node_count h tile fits in
    let eras = era_count h tile in
    let rest = (cond (has_tile_chains (layout h) tile) (tile_names (layout h) tile) []) ++ (cond (has_tree (layout h) tile) (node_names (layout h) tile) []) in
    let both = length-append (cond (has_tile_chains (layout h) tile) (tile_names (layout h) tile) []) (cond (has_tree (layout h) tile) (node_names (layout h) tile) []) in
    let all = length-append (era_names (layout h) tile) (names.Cum tile ∷ ((cond (has_tile_chains (layout h) tile) (tile_names (layout h) tile) []) ++ (cond (has_tree (layout h) tile) (node_names (layout h) tile) []))) in
    (omega (arith, all), omega (arith, parts, nodes, eras, both, all))

node_is_name : (era level index : ℕ) → level < 21 → IsName (node_name era level index)
node_is_name zero level index low = omega (arith, low)
node_is_name (suc era) level index low = omega (arith, low)

sealed_are_names : (h : History) (tile : ℕ) → exponent (layout h) tile ≤ 10 → All IsName (sealed_names (layout h) tile)
sealed_are_names h tile fits = each_sealed IsName (layout h) tile (λ e from below. tt) tt
    (λ part is. elim is [ inl e ↦ inr e | inr bit ↦ inl (omega (arith, bit, fits)) ])
    (λ level index low within. node_is_name (era_of (layout h) tile) level index low)

pub header_fileable : (h : History) → IsBatch (batch h 0)
unfolding batch batch_names
header_fileable h = record {
  some = omega arith;
  not_many = omega arith;
  names = All-cons (λ (x : Seal). IsName x.name) (seal h names.Header) [] tt (All-nil (λ (x : Seal). IsName x.name));
}

-- that of a tile by its exponent alone
pub tile_fileable : (h : History) (tile : ℕ) → exponent (layout h) tile ≤ 10 → IsBatch (batch h (suc tile))
unfolding batch batch_names
tile_fileable h tile fits =
    let long = length-map (sealed_names (layout h) tile) (seal h) in
    let count = sealed_count h tile fits in
    record {
      some = omega (arith, long, count);
      not_many = omega (arith, long, count);
      names = All-map (λ (x : Seal). IsName x.name) (seal h) (sealed_names (layout h) tile) (sealed_are_names h tile fits);
    }

pub fileable : BatchesMayBeFiled
fileable h zero fits = header_fileable h
fileable h (suc tile) fits = tile_fileable h tile (exponents_fit h tile fits)

-- ---- how long it is at most

-- no era begins at a tile, or it is the first one of its era
first_or_not : (h : History) (tile : ℕ) → (length (turns (layout h) tile) ≡ 0) ⊎ (leaf_start (layout h) tile ≡ 0)
unfolding leaf_start
first_or_not h zero = inr refl
first_or_not h (suc tile) = by (turns (layout h) (suc tile))
  where
    by : (xs : List Era) → (length xs ≡ 0) ⊎ (cond (is_none xs) (leaf_start (layout h) tile + tile_size (layout h) tile) 0 ≡ 0)
    by [] = inl refl
    by (x ∷ xs) = inr refl

first_node_count : (h : History) (tile : ℕ) → HasSpelling h → leaf_start (layout h) tile ≡ 0 → length (cond (has_tree (layout h) tile) (node_names (layout h) tile) []) ≤ 2047
unfolding node_names ending
first_node_count h tile fits first = elim (cases_Bool (has_tree (layout h) tile)) [
  | inl has ↦
      (let few : length (node_names (layout h) tile) ≤ 2 * 2 ^ exponent (layout h) tile - 1 = rw first (nodes_of_first (era_of (layout h) tile) (exponent (layout h) tile)) in
      let size : 2 ^ exponent (layout h) tile ≤ 2 ^ 10 = pow_mono (exponents_fit h tile fits) in
      rw has (omega (arith, few, size)))
  | inr has_not ↦ rw has_not (omega arith)
]

sealed_at_most : (h : History) (tile : ℕ) → HasSpelling h → length (sealed_names (layout h) tile) ≤ 2314
unfolding sealed_names tile_seals era_names
sealed_at_most h tile fits =
    let parts = part_count h tile (exponents_fit h tile fits) in
    let long = length-map-range_with_len names.Era (length (sealed_eras (layout h) tile) + 1) (length (turns (layout h) tile)) in
    let few = turns_are_few h tile in
    let both = length-append (cond (has_tile_chains (layout h) tile) (tile_names (layout h) tile) []) (cond (has_tree (layout h) tile) (node_names (layout h) tile) []) in
    let all = length-append (map names.Era (range_with_len (length (sealed_eras (layout h) tile) + 1) (length (turns (layout h) tile)))) (names.Cum tile ∷ ((cond (has_tile_chains (layout h) tile) (tile_names (layout h) tile) []) ++ (cond (has_tree (layout h) tile) (node_names (layout h) tile) []))) in
    elim (first_or_not h tile) [
      | inl none ↦ (let nodes = node_count h tile (exponents_fit h tile fits) in omega (arith, parts, nodes, long, none, both, all))
      | inr first ↦ (let nodes = first_node_count h tile fits first in omega (arith, parts, nodes, long, few, both, all))
    ]

pub short : BatchesAreShort
unfolding batch batch_names
short h zero fits = omega arith
short h (suc tile) fits = (let long = length-map (sealed_names (layout h) tile) (seal h) in let count = sealed_at_most h tile fits in omega (arith, long, count))

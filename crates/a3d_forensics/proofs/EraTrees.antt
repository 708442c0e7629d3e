-- The trees of a range, and their nodes.
use Rattle.std.proofs.Common.{◌≡◌, ℕ, ◌+◌, ◌-◌, ◌^◌, ◌<◌, ◌≤◌, Bool, true, List, [], ◌∷◌, length, map, filter, Option, Some, None, refl, sym, ap, subst, ◌∙◌, inl, inr, arith}
use Rattle.std.specs.Prelude.{nat_eq, nat_lt}
use Rattle.std.specs.List.{Contains, range_with_len, sum_by}
use Rattle.std.proofs.lemmas.Bool.{cases_lt}
use Rattle.std.proofs.lemmas.Nat.{pow_pos}
use Rattle.std.proofs.lemmas.List.Sums.{sum_by-cons}
use Rattle.history_model.specs.History.{History}
use Rattle.digest_model.specs.Layout.{Era, Layout, layout, SameTiles, tile_size, first_granule, tile_of, has_tree, sealed_eras, era_of, max_granules}
use Rattle.digest_model.proofs.Layouts as layouts
use Rattle.digest_model.proofs.Lists.{one_of, none_of, from_map, from_range, in_range}
use Rattle.digest_model.proofs.Members.{here, there, Contains-map}
use Rattle.audit_model.specs.Names.{planned, node_name}
use Rattle.audit_model.specs.Ranges.{is_of, range_of, granules_in, range_has}
use Rattle.audit_model.specs.Tree.{IsTree, leaves}
use Rattle.audit_model.proofs.TreeAudit.{node_planned}
use Rattle.a3d_forensics.specs.declared.tree.Tree.{Tree}
use Rattle.a3d_forensics.specs.Trees.{tiles_before, tree_of, eras_in, trees_of, IsOver, IsTreeOf}
use Rattle.a3d_forensics.specs.Laws.{IsLeafOf, TreesCoverRange}
use Rattle.a3d_forensics.proofs.Ranges.{splits, up, inside_era, era_inside, era_range, in_range_of, of_all, own_era, era_granules, all_granules, start_is, each_has}

-- ---- which trees a range has

-- a tree of an era whose tiles are all in the range
pub record IsOf (era : Option ℕ) (l : Layout) (n : ℕ) (tree : Tree) (number : ℕ) : Type 0 where
  pub is : tree ≡ tree_of l n number
  pub in_range : (tile : ℕ) → Contains (range_of (Some number) l n) tile → Contains (range_of era l n) tile

pub in_range_too : (era : Option ℕ) (l : Layout) (n number : ℕ) → Contains (eras_in era l n) number → (tile : ℕ) → Contains (range_of (Some number) l n) tile → Contains (range_of era l n) tile
in_range_too None l n number among tile is = of_all l n tile (in_range_of l (Some number) n tile is)
in_range_too (Some era) l n number among tile is = elim (one_of era number [] among) [
  | inl same ↦ subst (λ (e : ℕ). Contains (range_of (Some e) l n) tile) (sym same) is
  | inr none ↦ absurd (none_of number none)
]

pub trees_are : (era : Option ℕ) (l : Layout) (n : ℕ) → trees_of era l n ≡ map (tree_of l n) (eras_in era l n)
unfolding trees_of
trees_are era l n = refl

-- the tree of each era of the range
pub of_number : (era : Option ℕ) (l : Layout) (n number : ℕ) → Contains (eras_in era l n) number → Contains (trees_of era l n) (tree_of l n number) × IsOf era l n (tree_of l n number) number
unfolding trees_of
of_number era l n number among = (Contains-map (tree_of l n) (eras_in era l n) number among, record { is = refl; in_range = in_range_too era l n number among })

pub of_range : (era : Option ℕ) (l : Layout) (n : ℕ) (tree : Tree) → Contains (trees_of era l n) tree → (number : ℕ) × IsOf era l n tree number
unfolding trees_of
of_range era l n tree among =
    let r = from_map (tree_of l n) (eras_in era l n) tree among in
    (r.0, record { is = sym r.2; in_range = in_range_too era l n r.0 r.1 })

-- the era of each tile
pub era_in_range : (era : Option ℕ) (l : Layout) (n tile : ℕ) → Contains (range_of era l n) tile → Contains (eras_in era l n) (era_of l tile)
era_in_range None l n tile is = (let few = layouts.era_within l n tile (in_range_of l None n tile is) in in_range 0 (length (sealed_eras l n) + 1) (era_of l tile) (omega arith) (omega (arith, few)))
era_in_range (Some era) l n tile is = (let own = own_era l n era tile is in subst (λ (e : ℕ). Contains (era ∷ []) e) (sym own) (here era []))

-- the tree of each tile
pub tree_in : (era : Option ℕ) (l : Layout) (n tile : ℕ) → Contains (range_of era l n) tile → Contains (trees_of era l n) (tree_of l n (era_of l tile))
unfolding trees_of
tree_in era l n tile is = Contains-map (tree_of l n) (eras_in era l n) (era_of l tile) (era_in_range era l n tile is)

-- ---- its granules

module _ (l : Layout) (n number : ℕ) where
  pub first_is : (tree_of l n number).first ≡ first_granule l (tiles_before l n number)
  unfolding tree_of
  first_is = refl

  pub era_is : (tree_of l n number).era ≡ number
  unfolding tree_of
  era_is = refl

  pub leaves_are : (tree_of l n number).leaves ≡ granules_in (Some number) l n
  unfolding tree_of
  leaves_are = refl

  pub end_is : (tree_of l n number).first + (tree_of l n number).leaves ≡ first_granule l (tiles_before l n (number + 1))
  unfolding tree_of
  end_is = era_granules l n number

  pub within_all : (tree_of l n number).first + (tree_of l n number).leaves ≤ first_granule l n
  within_all = (let end = end_is in let few = (splits l n (number + 1)).within in let high = layouts.ascends l (tiles_before l n (number + 1)) n few in omega (arith, end, high))

  -- the tile of one of its granules is one of the era's
  pub tile_inside : (g : ℕ) → IsLeafOf (tree_of l n number) g → Contains (range_of (Some number) l n) (tile_of l g)
  tile_inside g leaf =
      let from = leaf.0 in
      let to = leaf.1 in
      let first = first_is in
      let end = end_is in
      let begins = layouts.tile_begins l g in
      let ends = layouts.tile_ends l g in
      let next = layouts.adjoin l (tile_of l g) in
      let below = layouts.tile_within l (tiles_before l n (number + 1)) (tile_of l g) g begins (omega (arith, to, end)) in
      let above = layouts.tile_within l (tile_of l g + 1) (tiles_before l n number) g (omega (arith, from, first)) (omega (arith, ends, next)) in
      subst (λ (tiles : List ℕ). Contains tiles (tile_of l g)) (sym (era_range l n number))
      (in_range (tiles_before l n number) (tiles_before l n (number + 1) - tiles_before l n number) (tile_of l g) (omega (arith, above)) (omega (arith, below, above)))

-- a granule is a leaf of the tree of its tile
pub own_leaf : (l : Layout) (n g : ℕ) → tile_of l g < n → IsLeafOf (tree_of l n (era_of l (tile_of l g))) g
own_leaf l n g below =
    let tile = tile_of l g in
    let inside = era_inside l n (tile_of l g) below in
    let from = inside.0 in
    let to = inside.1 in
    let begins = layouts.tile_begins l g in
    let ends = layouts.tile_ends l g in
    let next = layouts.adjoin l (tile_of l g) in
    let first = first_is l n (era_of l (tile_of l g)) in
    let end = end_is l n (era_of l (tile_of l g)) in
    let low = layouts.ascends l (tiles_before l n (era_of l (tile_of l g))) (tile_of l g) from in
    let high = layouts.ascends l (tile_of l g + 1) (tiles_before l n (era_of l (tile_of l g) + 1)) (omega (arith, to)) in
    (omega (arith, first, low, begins), omega (arith, end, high, ends, next))

pub covers : TreesCoverRange
covers l era n g = (
  λ has.
      let r = of_range era l n has.0 has.1 in
      r.1.in_range (tile_of l g) (tile_inside l n r.0 g (subst (λ (tree : Tree). IsLeafOf tree g) r.1.is has.2)),
  λ is. (tree_of l n (era_of l (tile_of l g)), tree_in era l n (tile_of l g) is, own_leaf l n g (in_range_of l era n (tile_of l g) is)),
)

-- it has no more than the range
pub leaves_part : (era : Option ℕ) (l : Layout) (n number : ℕ) → Contains (eras_in era l n) number → (tree_of l n number).leaves ≤ granules_in era l n
leaves_part None l n number among = (let all = all_granules l n in let few = within_all l n number in omega (arith, all, few))
leaves_part (Some era) l n number among = elim (one_of era number [] among) [
  | inl same ↦ (let own = leaves_are l n number ∙ ap (λ (e : ℕ). granules_in (Some e) l n) (sym same) in omega (arith, own))
  | inr none ↦ absurd (none_of number none)
]

-- ---- its nodes

-- the tiles of the tree of an era, where there is one
pub tree_is : (h : History) (era : Option ℕ) (n number : ℕ) (tree : Tree) → range_has has_tree era h n ≡ true → IsOf era (layout h) n tree number
    → tiles_before (layout h) n number < tiles_before (layout h) n (number + 1)
    → IsTree h n number (tiles_before (layout h) n number) (tiles_before (layout h) n (number + 1))
tree_is h era n number tree has of some = record {
  some = some;
  within = (splits (layout h) n (number + 1)).within;
  one_era = inside_era (layout h) n number;
  start = start_is (layout h) n number;
  has = λ tile from to. each_has has_tree era h n tile has (of.in_range tile
      (subst (λ (tiles : List ℕ). Contains tiles tile) (sym (era_range (layout h) n number))
      (in_range (tiles_before (layout h) n number) (tiles_before (layout h) n (number + 1) - tiles_before (layout h) n number) tile from (omega (arith, from, to)))));
}

-- so many leaves it has
pub leaves_of : (h : History) (n number : ℕ) → leaves h (tiles_before (layout h) n number) (tiles_before (layout h) n (number + 1)) ≡ (tree_of (layout h) n number).leaves
leaves_of h n number = (let end = end_is (layout h) n number in let first = first_is (layout h) n number in omega (arith, end, first))

-- an era without tiles has no leaf
pub no_leaves : (l : Layout) (n number : ℕ) → (tiles_before l n number < tiles_before l n (number + 1) → ⊥) → (tree_of l n number).leaves ≡ 0
no_leaves l n number none =
    let le = up l n number in
    let same : tiles_before l n (number + 1) ≡ tiles_before l n number = elim (cases_lt (tiles_before l n number) (tiles_before l n (number + 1))) [
      | inl some ↦ absurd (none some)
      | inr is ↦ omega (arith, le, is)
    ] in
    let end = end_is l n number in
    let first = first_is l n number in
    let one = ap (first_granule l) same in
    omega (arith, end, first, one)

-- a node over a leaf has tiles
pub over_some : (l : Layout) (n number level index : ℕ) → IsOver (tree_of l n number).leaves level index → tiles_before l n number < tiles_before l n (number + 1)
over_some l n number level index over = elim (cases_lt (tiles_before l n number) (tiles_before l n (number + 1))) [
  | inl some ↦ some
  | inr none ↦ absurd (let few = no_leaves l n number (λ some. omega (arith, some, none)) in let one = pow_pos level in omega (arith, few, one, over))
]

pub tree_planned : (h : History) (era : Option ℕ) (n number : ℕ) (tree : Tree) → range_has has_tree era h n ≡ true → first_granule (layout h) n ≤ max_granules → IsOf era (layout h) n tree number
    → IsTreeOf h n (tree_of (layout h) n number)
tree_planned h era n number tree has small of = record {
  planned = λ level index over.
      let is = tree_is h era n number tree has of (over_some (layout h) n number level index over) in
      let many = leaves_of h n number in
      let own = era_is (layout h) n number in
      subst (λ (e : ℕ). Contains (planned (layout h) n) (node_name e level index)) (sym own)
      (node_planned h n number (tiles_before (layout h) n number) (tiles_before (layout h) n (number + 1)) level index is (subst (λ (m : ℕ). IsOver m level index) (sym many) over) small);
  within = (let high = within_all (layout h) n number in omega (arith, high, small));
}

pub each_planned : (h : History) (era : Option ℕ) (n : ℕ) (tree : Tree) → range_has has_tree era h n ≡ true → first_granule (layout h) n ≤ max_granules → Contains (trees_of era (layout h) n) tree → IsTreeOf h n tree
each_planned h era n tree has small among =
    let r = of_range era (layout h) n tree among in
    subst (IsTreeOf h n) (sym r.1.is) (tree_planned h era n r.0 tree has small r.1)

-- ---- in two histories with these tiles alike

same_tests : (p q : ℕ → Bool) (tiles : List ℕ) → ((tile : ℕ) → Contains tiles tile → p tile ≡ q tile) → filter p tiles ≡ filter q tiles
same_tests p q [] each = refl
same_tests p q (t ∷ tiles) each =
    let own = each t (here t tiles) in
    let rest = same_tests p q tiles (λ tile is. each tile (there t tile tiles is)) in
    rw (own, rest) refl

same_sums : (f g : ℕ → ℕ) (tiles : List ℕ) → ((tile : ℕ) → Contains tiles tile → f tile ≡ g tile) → sum_by f tiles ≡ sum_by g tiles
same_sums f g [] each = refl
same_sums f g (t ∷ tiles) each =
    let own = each t (here t tiles) in
    let rest = same_sums f g tiles (λ tile is. each tile (there t tile tiles is)) in
    let left = sum_by-cons f t tiles in
    let right = sum_by-cons g t tiles in
    omega (arith, own, rest, left, right)

module _ (l m : Layout) (n : ℕ) (same : SameTiles n l m) where
  era_alike : (tile : ℕ) → Contains (range_with_len 0 n) tile → era_of l tile ≡ era_of m tile
  era_alike tile is = (let r = from_range 0 n tile is in layouts.same_era_of l m n tile (omega (arith, r)) same)

  begins_alike : (number : ℕ) → tiles_before l n number ≡ tiles_before m n number
  unfolding tiles_before
  begins_alike number =
      ap (λ (tiles : List ℕ). length tiles) (same_tests (λ tile. nat_lt (era_of l tile) number) (λ tile. nat_lt (era_of m tile) number) (range_with_len 0 n)
      (λ tile is. ap (λ (e : ℕ). nat_lt e number) (era_alike tile is)))

  test_alike : (era : Option ℕ) (tile : ℕ) → Contains (range_with_len 0 n) tile → is_of era l tile ≡ is_of era m tile
  test_alike None tile is = refl
  test_alike (Some number) tile is = ap (λ (e : ℕ). nat_eq e number) (era_alike tile is)

  pub range_alike : (era : Option ℕ) → range_of era l n ≡ range_of era m n
  unfolding range_of
  range_alike era = same_tests (is_of era l) (is_of era m) (range_with_len 0 n) (test_alike era)

  granules_alike : (era : Option ℕ) → granules_in era l n ≡ granules_in era m n
  unfolding granules_in
  granules_alike era =
      same_sums (tile_size l) (tile_size m) (range_of era l n) (λ tile is. ap (λ (k : ℕ). 2 ^ k) (layouts.same_exponent l m tile (same tile (in_range_of l era n tile is))))
      ∙ ap (sum_by (tile_size m)) (range_alike era)

  tree_alike : (number : ℕ) → tree_of l n number ≡ tree_of m n number
  unfolding tree_of
  tree_alike number =
      let few = (splits l n number).within in
      let first : first_granule l (tiles_before l n number) ≡ first_granule m (tiles_before m n number) = layouts.same_first l m n (tiles_before l n number) few same ∙ ap (first_granule m) (begins_alike number) in
      rw (first, granules_alike (Some number)) refl

  trees_over : (numbers : List ℕ) → map (tree_of l n) numbers ≡ map (tree_of m n) numbers
  trees_over [] = refl
  trees_over (number ∷ numbers) = rw (tree_alike number, trees_over numbers) refl

  pub trees_alike : (era : Option ℕ) → trees_of era l n ≡ trees_of era m n
  unfolding trees_of
  trees_alike None = ap (λ (es : List Era). map (tree_of l n) (range_with_len 0 (length es + 1))) (layouts.same_eras l m n same) ∙ trees_over (range_with_len 0 (length (sealed_eras m n) + 1))
  trees_alike (Some number) = trees_over (number ∷ [])

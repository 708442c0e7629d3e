-- What is kept and given when one tile more is taken.
use Rattle.std.proofs.Common.{◌≡◌, ℕ, ◌+◌, ◌≤◌, ◌||◌, Bool, true, false, List, length, refl, sym, ap, subst, ◌∙◌, inl, inr, arith}
use Rattle.std.proofs.lemmas.Bool.{cases_Bool}
use Rattle.tuple_bytes.specs.declared.header.Header.{Header}
use Rattle.history_model.specs.History.{History, history}
use Rattle.history_model.specs.Stored.{items_of}
use Rattle.digest_model.specs.Layout.{Layout, Policy, layout, layout_by, policy_of, first_granule, tile_size, has_tile_chains, has_tree, max_granules}
use Rattle.digest_model.specs.Digests.{cum}
use Rattle.digest_model.specs.Laws.{SameBelow}
use Rattle.digest_model.proofs.Layouts.{ascends, counts}
use Rattle.policy_eras.proofs.Histories.{layout_is}
use Rattle.tile_seals.specs.Kept.{Planned, planned_of, retold, Keeps}
use Rattle.tile_seals.specs.Places.{takes_leaves, leaves_in, parts_below}
use Rattle.tile_seals.proofs.SideBySide.{size_in, few_parts}
use Rattle.tile_seals.proofs.Same.{one_layout, kept_same}

-- a tile with tile chains takes the digests of its granules, and so does one with the tree
pub chains_take : (l : Layout) (tile : ℕ) → has_tile_chains l tile ≡ true → takes_leaves l tile ≡ true
chains_take l tile has = ap (λ (b : Bool). b || has_tree l tile) has

pub tree_takes : (l : Layout) (tile : ℕ) → has_tree l tile ≡ true → takes_leaves l tile ≡ true
tree_takes l tile has = ap (λ (b : Bool). has_tile_chains l tile || b) has ∙ or_true (has_tile_chains l tile)
  where
    or_true : (b : Bool) → (b || true) ≡ true
    or_true true = refl
    or_true false = refl

-- what is given of the next tile
pub record Given (p : Planned) (spellings leaves : List (List ℕ)) (link : List ℕ) : Type 0 where
  pub same : SameBelow p.history (retold p.history spellings) (first_granule (layout p.history) p.tiles)
  pub eras : policy_of (retold p.history spellings) ≡ policy_of p.history
  pub within : first_granule (layout p.history) (p.tiles + 1) ≤ max_granules
  pub leaves_are : takes_leaves (layout p.history) p.tiles ≡ true → leaves ≡ leaves_in (retold p.history spellings) p.tiles
  pub link_is : link ≡ cum (retold p.history spellings) p.tiles

-- and what is kept of those before, for what was told meanwhile
pub record IsNext (s : History) (tiles : ℕ) (eras : Policy) (first : List ℕ) (links : List (List ℕ)) (parts : List (List ℕ) × List ℕ) (forests : List (List (List (List ℕ)))) (leaves : List (List ℕ)) (link : List ℕ) : Type 0 where
  pub kept : Keeps s tiles eras first links parts forests
  pub within : first_granule (layout s) (tiles + 1) ≤ max_granules
  pub own : takes_leaves (layout s) tiles ≡ true → leaves ≡ leaves_in s tiles
  pub link_is : link ≡ cum s tiles

pub is_next : (header : Header) (was spellings leaves : List (List ℕ)) (tiles : ℕ) (link : List ℕ) (eras : Policy) (first : List ℕ) (links : List (List ℕ)) (parts : List (List ℕ) × List ℕ) (forests : List (List (List (List ℕ))))
    → Keeps (history header (items_of was)) tiles eras first links parts forests → (q : Planned) → planned_of (history header (items_of was)) tiles ≡ q → Given q spellings leaves link
    → IsNext (history header (items_of spellings)) tiles eras first links parts forests leaves link
is_next header was spellings leaves tiles link eras first links parts forests kept q is given =
    let h : History = history header (items_of was) in
    let s : History = history header (items_of spellings) in
    let facts = subst (λ (p : Planned). Given p spellings leaves link) (sym is) given in
    let one = one_layout h s tiles facts.same facts.eras in
    record {
      kept = kept_same h s tiles facts.same facts.eras eras first links parts forests kept;
      within = subst (λ (l : Layout). first_granule l (tiles + 1) ≤ max_granules) one facts.within;
      own = λ takes. facts.leaves_are (subst (λ (l : Layout). takes_leaves l tiles ≡ true) (sym one) takes);
      link_is = facts.link_is;
    }

module _ (s : History) (tiles : ℕ) (eras : Policy) (first : List ℕ) (links : List (List ℕ)) (parts : List (List ℕ) × List ℕ) (forests : List (List (List (List ℕ)))) (leaves : List (List ℕ)) (link : List ℕ)
    (n : IsNext s tiles eras first links parts forests leaves link) where
  pub few_tiles : tiles + 1 ≤ max_granules
  few_tiles = (let many = counts (layout s) (tiles + 1) in let within = n.within in omega (arith, many, within))

  pub parts_fit : length parts.0 ≤ max_granules
  parts_fit =
      let same = ap (λ (x : List (List ℕ) × List ℕ). length x.0) n.kept.chains in
      let few = few_parts s tiles in
      let within = n.kept.within in
      omega (arith, same, few, within)

  -- where a chain takes them
  sized : takes_leaves (layout_by eras) tiles ≡ true → length leaves ≡ tile_size (layout_by eras) tiles
  sized takes =
      let own = layout_is s n.kept.policy in
      ap length (n.own (subst (λ (l : Layout). takes_leaves l tiles ≡ true) own takes)) ∙ size_in s tiles ∙ sym (ap (λ (l : Layout). tile_size l tiles) own)

  pub sized_for_parts : has_tile_chains (layout_by eras) tiles ≡ true → length leaves ≡ tile_size (layout_by eras) tiles
  sized_for_parts has = sized (chains_take (layout_by eras) tiles has)

  pub sized_for_nodes : has_tree (layout_by eras) tiles ≡ true → length leaves ≡ tile_size (layout_by eras) tiles
  sized_for_nodes has = sized (tree_takes (layout_by eras) tiles has)

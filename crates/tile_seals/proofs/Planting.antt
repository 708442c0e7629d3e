-- The forests of the eras when one tile more is taken.
use Rattle.std.proofs.Common.{◌≡◌, ℕ, suc, ◌+◌, ◌-◌, ◌^◌, ◌<◌, ◌≤◌, true, false, List, [], length, get_or, set, map, refl, sym, ap, subst, ◌∙◌, arith}
use Rattle.std.specs.List.{range_with_len}
use Rattle.std.proofs.lemmas.Bool.{false≢true}
use Rattle.history_model.specs.History.{History}
use Rattle.digest_model.specs.Layout.{layout, policy_of, first_granule, tile_size, has_tree, era_of, era_start}
use Rattle.digest_model.specs.Digests.{era_granule}
use Rattle.digest_model.proofs.Layouts.{leaves_before}
use Rattle.digest_model.proofs.Eras.{tree_begins}
use Rattle.tile_seals.specs.Places.{levels_of, tree_leaves, forest_of, planned_forests}
use Rattle.tile_seals.proofs.Levels.{few_nodes}
use Rattle.tile_seals.proofs.Ranges.{map_same, set_one}
use Rattle.tile_seals.proofs.Trees.{leaves_more, leaves_stay, leaves_within, leaf_begin, era_counted}

module _ (h : History) (tile : ℕ) where
  next : tile + 1 ≡ suc tile
  next = omega arith

  stays : (era : ℕ) → (era_of (layout h) tile ≡ era → has_tree (layout h) tile ≡ true → ⊥) → forest_of h tile era ≡ forest_of h (tile + 1) era
  stays era never = ap (levels_of h (era_granule h era)) (sym (ap (tree_leaves (layout h) era) next ∙ leaves_stay (layout h) era tile never))

  -- without the tree all stay
  pub all_stay : has_tree (layout h) tile ≡ false → planned_forests h tile ≡ planned_forests h (tile + 1)
  all_stay none = map_same (forest_of h tile) (forest_of h (tile + 1)) 0 (1 + length (policy_of h).later) (λ era from below. stays era (λ e has. false≢true (sym none ∙ has)))

  -- how many there are
  pub own_below : era_of (layout h) tile < 1 + length (policy_of h).later
  own_below = (let known = era_counted h tile in omega (arith, known))

  -- with it one grows
  pub one_grows : set (planned_forests h tile) (era_of (layout h) tile) (forest_of h (tile + 1) (era_of (layout h) tile)) ≡ planned_forests h (tile + 1)
  one_grows = set_one (forest_of h tile) (forest_of h (tile + 1)) (1 + length (policy_of h).later) (era_of (layout h) tile) own_below
      (λ era below other. stays era (λ e has. other (sym e)))

  -- by the tile's granules, behind those that it has
  pub grows_by : has_tree (layout h) tile ≡ true → tree_leaves (layout h) (era_of (layout h) tile) tile + tile_size (layout h) tile ≡ tree_leaves (layout h) (era_of (layout h) tile) (tile + 1)
  grows_by has = sym (ap (tree_leaves (layout h) (era_of (layout h) tile)) next ∙ leaves_more (layout h) (era_of (layout h) tile) tile refl has)

  pub goes_on : has_tree (layout h) tile ≡ true → era_granule h (era_of (layout h) tile) + tree_leaves (layout h) (era_of (layout h) tile) tile ≡ first_granule (layout h) tile
  goes_on has = (let begin = tree_begins h tile in let leaf = leaf_begin h tile has in let before = leaves_before (layout h) tile in omega (arith, begin, leaf, before))

  -- it has no more nodes at a level than there are granules
  pub few_there : (era k : ℕ) → length (get_or (forest_of h tile era) k []) ≤ first_granule (layout h) tile
  few_there era k = (let few = few_nodes h (era_granule h era) (tree_leaves (layout h) era tile) k in let within = leaves_within (layout h) era tile in omega (arith, few, within))

use Rattle.std.proofs.Common.{◌≡◌, ℕ, ◌+◌, ◌<◌, ◌≤◌, true, false, List, [], length, get_or, set, map, sym, ap, subst, ◌∙◌, arith}
use Rattle.std.specs.List.{range_with_len}
use Rattle.std.proofs.lemmas.List.{get_or_read}
use Rattle.std.proofs.lemmas.List.FromFn.{length-map-range_with_len, get_or-map-range_with_len}
use Rattle.history_model.specs.History.{History}
use Rattle.digest_model.specs.Layout.{Layout, layout, layout_by, policy_of, Policy, first_granule, tile_size, has_tree, era_of}
use Rattle.digest_model.specs.Digests.{era_granule, granule_digest}
use Rattle.digest_model.proofs.Layouts.{adjoin}
use Rattle.policy_eras.proofs.Histories.{layout_is}
use Rattle.tile_seals.specs.Places.{levels_of, tree_leaves, forest_of, planned_forests}
use Rattle.tile_seals.proofs.Planting.{all_stay, own_below, one_grows, grows_by, goes_on, few_there}
use Rattle.tile_seals.proofs.forests.Forests.add.Goals as goal

module _ (h : History) (p : Policy) (tile era : ℕ) (e : p ≡ policy_of h) (forests : List (List (List (List ℕ)))) (were : forests ≡ planned_forests h tile) (is : era ≡ era_of (layout_by p) tile) where
  own_era : era ≡ era_of (layout h) tile
  own_era = is ∙ ap (λ (l : Layout). era_of l tile) (layout_is h e)

  count : length forests ≡ 1 + length (policy_of h).later
  count = ap length were ∙ length-map-range_with_len (forest_of h tile) 0 (1 + length (policy_of h).later)

  inside : era < length forests
  inside = (let known = own_below h tile in omega (arith, own_era, count, known))

  -- the forest of the tile's era
  read : (found : List (List (List ℕ))) → found ≡ get_or forests era found → found ≡ forest_of h tile era
  read found at =
      at ∙ ap (λ (x : List (List (List (List ℕ)))). get_or x era found) were
      ∙ get_or-map-range_with_len (forest_of h tile) 0 (1 + length (policy_of h).later) era era found (let below = inside in omega (arith, count, below)) (omega arith)

pub index_mut-requires : goal.index_mut-requires
index_mut-requires c =
    let h = c.requires.some.0 in
    let known = inside h c.args.eras.now c.args.tile c.era_of-era.result c.requires.some.1 c.self.inside.forests.items (c.self.view_is ∙ c.requires.some.2) c.era_of-era.ensures.value in
    omega (arith, known)

pub grow-requires : goal.grow-requires
grow-requires c = record {
  few = λ k.
      (let h = c.requires.some.0 in
      let has = sym c.has_tree.ensures.value ∙ c.if-has_tree.true in
      let found = read h c.args.eras.now c.args.tile c.era_of-era.result c.requires.some.1 c.self.inside.forests.items (c.self.view_is ∙ c.requires.some.2) c.era_of-era.ensures.value c.index_mut.result.now c.index_mut.ensures.value in
      let few = few_there h c.args.tile c.era_of-era.result k in
      let same = ap (λ (x : List (List (List ℕ))). length (get_or x k [])) found in
      let size = c.requires.granules has ∙ ap (λ (l : Layout). tile_size l c.args.tile) (layout_is h c.requires.some.1) in
      let ends = adjoin (layout c.requires.some.0) c.args.tile in
      omega (arith, few, same, size, ends, c.requires.some.3));
}

pub returns-in_ok-grow : goal.returns-in_ok-grow
returns-in_ok-grow c = record {
  value = λ h e was leaves.
      (let tile = c.args.tile in
      let era = c.era_of-era.result in
      let forests = c.self.inside.forests.items in
      let were = c.self.view_is ∙ was in
      let asked = sym c.has_tree.ensures.value ∙ c.if-has_tree.true in
      let has : has_tree (layout h) c.args.tile ≡ true = ap (λ (l : Layout). has_tree l c.args.tile) (sym (layout_is h e)) ∙ asked in
      let size : length c.args.leaves.now ≡ tile_size (layout h) c.args.tile = c.requires.granules asked ∙ ap (λ (l : Layout). tile_size l c.args.tile) (layout_is h e) in
      let own = own_era h c.args.eras.now tile era e forests were c.era_of-era.ensures.value in
      let found = read h c.args.eras.now tile era e forests were c.era_of-era.ensures.value c.index_mut.result.now c.index_mut.ensures.value in
      let begin : era_granule h c.era_of-era.result + tree_leaves (layout h) c.era_of-era.result c.args.tile ≡ first_granule (layout h) c.args.tile =
      ap (λ (x : ℕ). era_granule h x + tree_leaves (layout h) x c.args.tile) own ∙ goes_on h tile has in
      let more : tree_leaves (layout h) c.era_of-era.result c.args.tile + length c.args.leaves.now ≡ tree_leaves (layout h) c.era_of-era.result (c.args.tile + 1) =
      ap (λ (n : ℕ). tree_leaves (layout h) c.era_of-era.result c.args.tile + n) size
      ∙ ap (λ (x : ℕ). tree_leaves (layout h) x c.args.tile + tile_size (layout h) c.args.tile) own ∙ grows_by h tile has
      ∙ ap (λ (x : ℕ). tree_leaves (layout h) x (c.args.tile + 1)) (sym own) in
      let taken : c.args.leaves.now ≡ map (granule_digest h) (range_with_len (era_granule h c.era_of-era.result + tree_leaves (layout h) c.era_of-era.result c.args.tile) (length c.args.leaves.now)) =
      leaves has
      ∙ ap (λ (n : ℕ). map (granule_digest h) (range_with_len (first_granule (layout h) c.args.tile) n)) (sym size)
      ∙ ap (λ (n : ℕ). map (granule_digest h) (range_with_len n (length c.args.leaves.now))) (sym begin) in
      let grown : c.grow.new.self ≡ forest_of h (c.args.tile + 1) c.era_of-era.result =
      c.in_ok-grow.ensures.value h (era_granule h c.era_of-era.result) (tree_leaves (layout h) c.era_of-era.result c.args.tile) found taken
      ∙ ap (levels_of h (era_granule h c.era_of-era.result)) more in
      ap (λ (x : List (List (List ℕ))). set c.self.inside.forests.items c.era_of-era.result x) grown
      ∙ ap (λ (x : List (List (List (List ℕ)))). set x c.era_of-era.result (forest_of h (c.args.tile + 1) c.era_of-era.result)) were
      ∙ ap (λ (x : ℕ). set (planned_forests h c.args.tile) x (forest_of h (c.args.tile + 1) x)) own
      ∙ one_grows h tile);
}

pub returns-else-has_tree : goal.returns-else-has_tree
returns-else-has_tree c = record {
  value = λ h e was leaves.
      was ∙ all_stay h c.args.tile (ap (λ (l : Layout). has_tree l c.args.tile) (sym (layout_is h e)) ∙ sym c.has_tree.ensures.value ∙ c.if-has_tree.false);
}

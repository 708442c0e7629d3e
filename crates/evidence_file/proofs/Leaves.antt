-- The digest of a sealed granule is filed as a leaf.
use Rattle.std.proofs.Common.{◌≡◌, ℕ, ◌+◌, ◌-◌, ◌/◌, ◌%◌, ◌^◌, ◌<◌, ◌≤◌, true, cond, Bool, [], ◌++◌, map, filter, sym, ap, subst, ◌∙◌, arith}
use Rattle.std.specs.Prelude.{nat_eq}
use Rattle.std.specs.List.{Contains, range_with_len}
use Rattle.std.proofs.lemmas.Bool.{eq-eqb}
use Rattle.std.proofs.lemmas.List.Elements.{Contains-append_right}
use Rattle.notary_link.specs.declared.name.Name.{Name}
use Rattle.notary_link.specs.declared.name.Name.TheVariants as names
use Rattle.history_model.specs.History.{History}
use Rattle.digest_model.specs.Layout.{Layout, layout, first_granule, tile_size, tile_of, has_tile_chains, has_tree, era_of, era_start, leaf_start}
use Rattle.digest_model.specs.Digests.{node_digest, granule_digest}
use Rattle.digest_model.proofs.Members.{there, Contains-map, Contains-flat_map}
use Rattle.digest_model.proofs.Lists.{in_range, in_filter}
use Rattle.digest_model.proofs.Layouts as layouts
use Rattle.digest_model.proofs.Eras.{tree_begins}
use Rattle.audit_model.specs.Names.{digest, tile_names, node_name, node_ending_at, nodes_ending_at, node_names, tile_seals, planned}
use Rattle.audit_model.proofs.EraNodes.{digest_of_node}
use Rattle.audit_model.proofs.Planned.{of_tile_planned}
use Rattle.evidence_file.specs.Shown.{leaf_of, LeavesAreFiled}

ends_at : (era g : ℕ) → Contains (nodes_ending_at era g) (node_name era 0 g)
unfolding nodes_ending_at
ends_at era g =
    let divides : (g + 1) % 2 ^ 0 ≡ 0 = omega arith in
    let place : (g + 1) / 2 ^ 0 - 1 ≡ g = omega arith in
    let level_in = in_filter (λ l. nat_eq ((g + 1) % 2 ^ l) 0) (range_with_len 0 21) 0 (in_range 0 21 0 (omega arith) (omega arith)) (eq-eqb ((g + 1) % 2 ^ 0) 0 divides) in
    let made = Contains-map (node_ending_at era g) (filter (λ l. nat_eq ((g + 1) % 2 ^ l) 0) (range_with_len 0 21)) 0 level_in in
    subst (λ (i : ℕ). Contains (map (node_ending_at era g) (filter (λ l. nat_eq ((g + 1) % 2 ^ l) 0) (range_with_len 0 21))) (node_name era 0 i)) place made

in_tree : (l : Layout) (n tile g : ℕ) → has_tree l tile ≡ true → tile < n → leaf_start l tile ≤ g → g < leaf_start l tile + tile_size l tile
    → Contains (planned l n) (node_name (era_of l tile) 0 g)
unfolding tile_seals node_names
in_tree l n tile g has below from to =
    let name : Name = node_name (era_of l tile) 0 g in
    let here : Contains (node_names l tile) name = Contains-flat_map (nodes_ending_at (era_of l tile)) (range_with_len (leaf_start l tile) (tile_size l tile)) g name (in_range (leaf_start l tile) (tile_size l tile) g from to) (ends_at (era_of l tile) g) in
    let taken : Contains (cond (has_tree l tile) (node_names l tile) []) name = subst (λ (b : Bool). Contains (cond b (node_names l tile) []) name) (sym has) here in
    of_tile_planned l n tile name below
    (there (names.Cum tile) name ((cond (has_tile_chains l tile) (tile_names l tile) []) ++ (cond (has_tree l tile) (node_names l tile) []))
    (Contains-append_right (cond (has_tile_chains l tile) (tile_names l tile) []) (cond (has_tree l tile) (node_names l tile) []) name taken))

leaf_value : (h : History) (tile leaf g : ℕ) → first_granule (layout h) (era_start (layout h) tile) + leaf ≡ g → digest h (node_name (era_of (layout h) tile) 0 leaf) ≡ granule_digest h g
unfolding node_digest
leaf_value h tile leaf g e =
    digest_of_node h (era_of (layout h) tile) 0 leaf ∙ ap (λ (f : ℕ). granule_digest h (f + leaf)) (tree_begins h tile) ∙ ap (granule_digest h) e

pub leaves_are_filed : LeavesAreFiled
leaves_are_filed h n g sealed has =
    let l : Layout = layout h in
    let tile : ℕ = tile_of l g in
    let from : first_granule l tile ≤ g = layouts.tile_begins l g in
    let to : g < first_granule l tile + tile_size l tile = layouts.tile_ends l g in
    let below : tile < n = layouts.tile_within l n tile g from sealed in
    let before : first_granule l (era_start l tile) + leaf_start l tile ≡ first_granule l tile = layouts.leaves_before l tile in
    record {
      filed = in_tree l n tile (leaf_of l g) has below (omega arith) (omega (arith, from, to));
      value = leaf_value h tile (leaf_of l g) g (omega (arith, from, before));
    }

-- The descent finds the altered granules.
use Rattle.std.proofs.Common.{◌≡◌, ℕ, zero, suc, ◌+◌, ◌-◌, ◌*◌, ◌/◌, ◌%◌, ◌^◌, ◌<◌, ◌≤◌, Bool, true, cond, List, [], ◌++◌, map, filter, sym, ap, subst, ◌∙◌, ◌⊎◌, inl, inr, Some, refl, arith}
use Rattle.std.specs.Prelude.{nat_eq}
use Rattle.std.specs.List.{Contains, range_with_len}
use Rattle.std.specs.Int.{bit_at}
use Rattle.std.proofs.lemmas.Bool.{cases_lt, eq-eqb}
use Rattle.std.proofs.lemmas.Nat.{mul-le, pow_pos, shl-shr, shr-shr, mod_low}
use Rattle.std.proofs.Math.Pow.{pow_mono}
use Rattle.std.proofs.lemmas.List.Elements.{Contains-append_right}
use Rattle.tuple_bytes.specs.declared.item.Txn.{Txn}
use Rattle.notary_link.specs.declared.name.Name.{Name}
use Rattle.notary_link.specs.declared.name.Name.TheVariants as names
use Rattle.notary_link.specs.declared.answer.Answer.{Answer}
use Rattle.notary_link.specs.declared.answer.Answer.TheVariants.{Differs}
use Rattle.history_model.specs.History.{History, rows}
use Rattle.notary_link.specs.Batches.{Batch, compared}
use Rattle.digest_model.specs.Layout.{Layout, layout, SameTiles, first_granule, end_granule, tile_size, tile_of, has_tile_chains, has_tree, era_of, era_start, leaf_start}
use Rattle.digest_model.specs.Digests.{era_granule, node_digest}
use Rattle.digest_model.specs.Inputs.{Clash, node_inputs}
use Rattle.audit_model.specs.Laws.{IsAudit, IsTree, leaves, nodes_of, DescentHasAltered, DescentIsAltered}
use Rattle.audit_model.specs.Names.{digest, inputs_of, tile_names, node_name, node_ending_at, nodes_ending_at, node_names, tile_seals, planned}
use Rattle.audit_model.specs.Tree.{Reached, as_root, as_child, IsFound}
use Rattle.digest_model.proofs.Members.{there, Contains-map, Contains-flat_map}
use Rattle.digest_model.proofs.Nodes.{twice, nodes_apart}
use Rattle.digest_model.proofs.Layouts as layouts
use Rattle.digest_model.proofs.Follows.{follow}
use Rattle.digest_model.proofs.Eras.{tree_begins}
use Rattle.audit_model.proofs.EraNodes.{digest_of_node, inputs_of_node, same_tree_begin}
use Rattle.audit_model.specs.Altered.{IsAltered, HashClash}
use Rattle.digest_model.proofs.Lists.{in_range, in_filter}
use Rattle.digest_model.proofs.Roots.{root_fits, root_over, under_own}
use Rattle.audit_model.proofs.Compare.{compare, one_answer, differs_of}
use Rattle.audit_model.proofs.Planned.{of_tile_planned, clash_of, places_of, not_same_rows, same_view}

-- the nodes under n sealed tiles are planned
tree_names_in : (l : Layout) (n tile : ℕ) (name : Name) → has_tree l tile ≡ true → tile < n → Contains (node_names l tile) name → Contains (planned l n) name
unfolding tile_seals
tree_names_in l n tile name has below is =
    let taken : Contains (cond (has_tree l tile) (node_names l tile) []) name = subst (λ (b : Bool). Contains (cond b (node_names l tile) []) name) (sym has) is in
    of_tile_planned l n tile name below
    (there (names.Cum tile) name ((cond (has_tile_chains l tile) (tile_names l tile) []) ++ (cond (has_tree l tile) (node_names l tile) []))
    (Contains-append_right (cond (has_tile_chains l tile) (tile_names l tile) []) (cond (has_tree l tile) (node_names l tile) []) name taken))

pub low_level : (level index limit : ℕ) → (index + 1) * 2 ^ level ≤ limit → limit ≤ 1048576 → level < 21
low_level level index limit h small = elim (cases_lt level 21) [
  | inl yes_it ↦ yes_it
  | inr above ↦ absurd (let more : 2 ^ 21 ≤ 2 ^ level = pow_mono above in omega (arith, more, h, small))
]

ends_at : (era level index g : ℕ) → g + 1 ≡ (index + 1) * 2 ^ level → level < 21 → Contains (nodes_ending_at era g) (node_name era level index)
unfolding nodes_ending_at
ends_at era level index g e low =
    let none : ((index + 1) * 2 ^ level + 0) % 2 ^ level ≡ 0 = mod_low (index + 1) level 0 (pow_pos level) in
    let divides : (g + 1) % 2 ^ level ≡ 0 = rw e (let plain : (index + 1) * 2 ^ level + 0 ≡ (index + 1) * 2 ^ level = omega arith in rw plain at none) in
    let place : (g + 1) / 2 ^ level - 1 ≡ index = rw (e, shl-shr (index + 1) level) (omega arith) in
    let level_in = in_filter (λ l. nat_eq ((g + 1) % 2 ^ l) 0) (range_with_len 0 21) level (in_range 0 21 level (omega arith) (omega arith)) (eq-eqb ((g + 1) % 2 ^ level) 0 divides) in
    let made = Contains-map (node_ending_at era g) (filter (λ l. nat_eq ((g + 1) % 2 ^ l) 0) (range_with_len 0 21)) level level_in in
    subst (λ (i : ℕ). Contains (map (node_ending_at era g) (filter (λ l. nat_eq ((g + 1) % 2 ^ l) 0) (range_with_len 0 21))) (node_name era level i)) place made

-- a node whose last leaf lies in a tile
pub node_in_tile : (l : Layout) (n tile level index g : ℕ) → has_tree l tile ≡ true → tile < n → g + 1 ≡ (index + 1) * 2 ^ level → level < 21
    → leaf_start l tile ≤ g → g < leaf_start l tile + tile_size l tile → Contains (planned l n) (node_name (era_of l tile) level index)
unfolding node_names
node_in_tile l n tile level index g has below e low from to =
    tree_names_in l n tile (node_name (era_of l tile) level index) has below
    (Contains-flat_map (nodes_ending_at (era_of l tile)) (range_with_len (leaf_start l tile) (tile_size l tile)) g (node_name (era_of l tile) level index)
    (in_range (leaf_start l tile) (tile_size l tile) g from to) (ends_at (era_of l tile) level index g e low))

pub node_planned : (h : History) (n era a b level index : ℕ) → IsTree h n era a b → (index + 1) * 2 ^ level ≤ leaves h a b → first_granule (layout h) n ≤ 1048576
    → Contains (planned (layout h) n) (node_name era level index)
node_planned h n era a b level index tree within small = in_tile (tile_of (layout h) place) refl
  where
    g : ℕ
    g = (index + 1) * 2 ^ level - 1

    place : ℕ
    place = first_granule (layout h) a + ((index + 1) * 2 ^ level - 1)

    in_tile : (tile : ℕ) → tile_of (layout h) place ≡ tile → Contains (planned (layout h) n) (node_name era level index)
    in_tile tile is =
        let some = pow_pos level in
        let next : (index + 1) * 2 ^ level - 1 + 1 ≡ (index + 1) * 2 ^ level = omega (arith, some) in
        let from : first_granule (layout h) tile ≤ place = subst (λ (t : ℕ). first_granule (layout h) t ≤ place) is (layouts.tile_begins (layout h) place) in
        let to : place < end_granule (layout h) tile = subst (λ (t : ℕ). place < end_granule (layout h) t) is (layouts.tile_ends (layout h) place) in
        let ends = layouts.adjoin (layout h) tile in
        let up_to = layouts.ascends (layout h) b n tree.within in
        let below : tile < b = layouts.tile_within (layout h) b tile place from (omega (arith, within, next)) in
        let above : a < tile + 1 = layouts.tile_within (layout h) (tile + 1) a place (omega arith) (omega (arith, to, ends)) in
        let behind : a ≤ tile = omega (arith, above) in
        let before = layouts.leaves_before (layout h) tile in
        let begin : first_granule (layout h) (era_start (layout h) tile) ≡ first_granule (layout h) a = ap (first_granule (layout h)) (tree.start tile behind below) in
        let inside = tree.within in
        let low = low_level level index (leaves h a b) within (omega (arith, small, up_to)) in
        subst (λ (x : ℕ). Contains (planned (layout h) n) (node_name x level index)) (tree.one_era tile behind below)
        (node_in_tile (layout h) n tile level index ((index + 1) * 2 ^ level - 1) (tree.has tile behind below) (omega (arith, below, inside)) next low
        (omega (arith, from, before, begin)) (omega (arith, to, before, begin)))

-- ---- the digests of its nodes

module _ (h s : History) (n era a b : ℕ) (tree : IsTree h n era a b) (places : SameTiles n (layout h) (layout s)) where
  first_tile : a < n
  first_tile = (let some = tree.some in let within = tree.within in omega (arith, some, within))

  own_era : era_of (layout h) a ≡ era
  own_era = tree.one_era a (omega arith) tree.some

  own_begin : first_granule (layout h) (era_start (layout h) a) ≡ first_granule (layout h) a
  own_begin = ap (first_granule (layout h)) (tree.start a (omega arith) tree.some)

  begin_h : era_granule h era ≡ first_granule (layout h) a
  begin_h = ap (era_granule h) (sym own_era) ∙ tree_begins h a ∙ own_begin

  begin_s : era_granule s era ≡ first_granule (layout h) a
  begin_s = ap (era_granule s) (sym own_era) ∙ same_tree_begin h s n a first_tile places ∙ own_begin

  pub tree_digest_h : (level index : ℕ) → digest h (node_name era level index) ≡ node_digest h (first_granule (layout h) a) level index
  tree_digest_h level index = digest_of_node h era level index ∙ ap (λ (f : ℕ). node_digest h f level index) begin_h

  pub tree_digest_s : (level index : ℕ) → digest s (node_name era level index) ≡ node_digest s (first_granule (layout h) a) level index
  tree_digest_s level index = digest_of_node s era level index ∙ ap (λ (f : ℕ). node_digest s f level index) begin_s

  tree_inputs_h : (level index : ℕ) → inputs_of h (node_name era level index) ≡ node_inputs h (first_granule (layout h) a) level index
  tree_inputs_h level index = inputs_of_node h era level index ∙ ap (λ (f : ℕ). node_inputs h f level index) begin_h

  tree_inputs_s : (level index : ℕ) → inputs_of s (node_name era level index) ≡ node_inputs s (first_granule (layout h) a) level index
  tree_inputs_s level index = inputs_of_node s era level index ∙ ap (λ (f : ℕ). node_inputs s f level index) begin_s

  tree_clash : (level index : ℕ) → Clash (node_inputs h (first_granule (layout h) a) level index) (node_inputs s (first_granule (layout h) a) level index) → Clash (inputs_of h (node_name era level index)) (inputs_of s (node_name era level index))
  tree_clash level index c =
      subst (λ (xs : List (List ℕ)). Clash xs (inputs_of s (node_name era level index))) (sym (tree_inputs_h level index))
      (subst (λ (ys : List (List ℕ)). Clash (node_inputs h (first_granule (layout h) a) level index) ys) (sym (tree_inputs_s level index)) c)

-- the answer for a node compares the digests of the tree
pub node_asked : (batches : List Batch) (id : ℕ) (h s : History) (n era a b level index : ℕ) → IsAudit batches id h s n → IsTree h n era a b → (index + 1) * 2 ^ level ≤ leaves h a b
    → nodes_of batches s era level index ≡ compared (node_digest s (first_granule (layout h) a) level index) (node_digest h (first_granule (layout h) a) level index)
node_asked batches id h s n era a b level index is tree within =
    compare batches id h s n (node_name era level index) is.filed (node_planned h n era a b level index tree within is.filed.within)
    ∙ ap (λ (x : List ℕ). compared x (digest h (node_name era level index))) (tree_digest_s h s n era a b tree is.places level index)
    ∙ ap (λ (y : List ℕ). compared (node_digest s (first_granule (layout h) a) level index) y) (tree_digest_h h s n era a b tree is.places level index)

-- ---- roots

doubled : (p q i : ℕ) (limit : ℕ) → q ≡ 2 * p → (i / 2 + 1) * q ≤ limit → (i + 1) * p ≤ limit
doubled p q i limit e h = (let h' : (i / 2 + 1) * (2 * p) ≤ limit = rw e at h in let near : i + 1 ≤ 2 * (i / 2) + 2 = omega arith in let more : (i + 1) * p ≤ (2 * (i / 2) + 2) * p = mul-le (i + 1) p (2 * (i / 2) + 2) p near (omega arith) in omega (arith, more, h'))

pub reached_within : (granules : ℕ) (nodes : ℕ → ℕ → Answer) (level index : ℕ) → Reached granules nodes level index → (index + 1) * 2 ^ level ≤ granules
reached_within granules nodes level index (as_root r) = (let e = r.place in rw e (root_fits granules level r.digit))
reached_within granules nodes level index (as_child above e) = doubled (2 ^ level) (2 ^ suc level) index granules (twice level) (reached_within granules nodes (suc level) (index / 2) above)

-- ---- the descent to an altered granule

module _ (batches : List Batch) (id : ℕ) (h s : History) (n era a b g : ℕ) (is : IsAudit batches id h s n) (tree : IsTree h n era a b) (inside : g < leaves h a b) (alt : IsAltered h (Some s) n (first_granule (layout h) a + g)) where
  node_differs : (level : ℕ) → (g / 2 ^ level + 1) * 2 ^ level ≤ leaves h a b → (nodes_of batches s era level (g / 2 ^ level) ≡ Differs) ⊎ HashClash h (Some s) n
  node_differs level within =
      let plan = node_planned h n era a b level (g / 2 ^ level) tree within is.filed.within in
      let asked = node_asked batches id h s n era a b level (g / 2 ^ level) is tree within in
      elim (one_answer (node_digest s (first_granule (layout h) a) level (g / 2 ^ level)) (node_digest h (first_granule (layout h) a) level (g / 2 ^ level))) [
        | inl same ↦ elim (nodes_apart h s (first_granule (layout h) a) level (g / 2 ^ level) is.ours is.theirs (sym same.0)) [
          | inl all ↦ absurd (not_same_rows h s n (first_granule (layout h) a + g) (places_of batches id h s n is) alt (all g (under_own level g)))
          | inr c ↦ inr (clash_of h s n (node_name era level (g / 2 ^ level)) is.places plan (tree_clash h s n era a b tree is.places level (g / 2 ^ level) c))
        ]
        | inr differ ↦ inl (asked ∙ differ.1)
      ]

  path : (level steps top : ℕ) → level + steps ≡ top → bit_at (leaves h a b) top ≡ 1 → g / 2 ^ top ≡ 2 * (leaves h a b / 2 ^ (top + 1))
      → Reached (leaves h a b) (nodes_of batches s era) level (g / 2 ^ level) ⊎ HashClash h (Some s) n
  path level zero top sum one place =
      let here_it : top ≡ level = omega (arith, sum) in
      inl (subst (λ l. Reached (leaves h a b) (nodes_of batches s era) l (g / 2 ^ l)) here_it (as_root (record { digit = one; place = place })))
  path level (suc steps) top sum one place =
      elim (path (suc level) steps top (omega (arith, sum)) one place) [
        | inl above ↦ elim (node_differs (suc level) (reached_within (leaves h a b) (nodes_of batches s era) (suc level) (g / 2 ^ suc level) above)) [
          | inl differs ↦
              (let next : level + 1 ≡ suc level = omega arith in
              let up : g / 2 ^ level / 2 ≡ g / 2 ^ suc level = shr-shr g level 1 ∙ ap (λ x. g / 2 ^ x) next in
              inl (as_child
              (subst (λ (i : ℕ). Reached (leaves h a b) (nodes_of batches s era) (suc level) i) (sym up) above)
              (subst (λ (i : ℕ). nodes_of batches s era (suc level) i ≡ Differs) (sym up) differs)))
          | inr c ↦ inr c
        ]
        | inr c ↦ inr c
      ]

  found_or_clash : IsFound (leaves h a b) (nodes_of batches s era) g ⊎ HashClash h (Some s) n
  found_or_clash =
      let small = is.filed.within in
      let up_to = layouts.ascends (layout h) b n tree.within in
      let top = root_over (leaves h a b) g 32 inside (omega (arith, small, up_to, inside)) in
      elim (path 0 top.0 top.0 (omega arith) top.1 top.2) [
        | inl reached ↦
            (let own : g / 2 ^ 0 ≡ g = omega arith in
            elim (node_differs 0 (omega (arith, inside))) [
              | inl differs ↦ inl (record { reached = rw own at reached; differs = rw own at differs })
              | inr c ↦ inr c
            ])
        | inr c ↦ inr c
      ]

pub descent_has : DescentHasAltered
descent_has batches id h s n era a b g is tree inside alt = found_or_clash batches id h s n era a b g is tree inside alt

pub leaf_same : (a b : History) (first g : ℕ) → rows a (first + g) ≡ rows b (first + g) → node_digest a first 0 g ≡ node_digest b first 0 g
unfolding node_digest
leaf_same a b first g e = follow.granules a b (first + g) e

pub same_some : (xs ys : List Txn) → Some xs ≡ Some ys → xs ≡ ys
same_some xs ys e = cc

pub descent_is : DescentIsAltered
descent_is batches id h s n era a b g is tree f =
    let within = reached_within (leaves h a b) (nodes_of batches s era) 0 g f.reached in
    let up_to = layouts.ascends (layout h) b n tree.within in
    let first : ℕ = first_granule (layout h) a in
    let asked = node_asked batches id h s n era a b 0 g is tree within in
    let differ = differs_of (node_digest s (first_granule (layout h) a) 0 g) (node_digest h (first_granule (layout h) a) 0 g) (sym asked ∙ f.differs) in
    record {
      is_sealed = omega (arith, within, up_to);
      differs = λ e. differ (leaf_same s h (first_granule (layout h) a) g (same_some (rows s (first_granule (layout h) a + g)) (rows h (first_granule (layout h) a + g)) (sym (same_view h s n (first_granule (layout h) a + g) (places_of batches id h s n is)) ∙ e)));
    }

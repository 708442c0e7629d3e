-- Which granules have a leaf that is filed: the sealed ones whose tile has the tree.
use Rattle.std.proofs.Common.{◌≡◌, ℕ, zero, suc, ◌+◌, ◌-◌, ◌<◌, ◌≤◌, Bool, true, cond, List, [], ◌∷◌, length, length-append, refl, sym, ap, subst, ◌∙◌, ◌⊎◌, inl, inr, Some, arith}
use Rattle.std.specs.List.{Contains}
use Rattle.std.proofs.lemmas.Bool.{cases_Bool, cases_lt, false≢true}
use Rattle.notary_link.specs.declared.name.Name.{Name}
use Rattle.history_model.specs.History.{History}
use Rattle.digest_model.specs.Layout.{Era, Layout, SameTiles, layout, policy_of, era_at, first_granule, tile_size, tile_of, has_tree, is_none, turns, sealed_eras, era_of, era_start, leaf_start}
use Rattle.digest_model.specs.Digests.{granule_of_era, era_granule}
use Rattle.digest_model.proofs.Layouts as layouts
use Rattle.digest_model.proofs.Eras.{tree_on, tree_begins}
use Rattle.audit_model.specs.Altered.{HasPlacesOf}
use Rattle.audit_model.specs.Names.{planned, node_name}
use Rattle.audit_model.proofs.Planned.{same_planned}
use Rattle.tile_seals.proofs.Naming.{IsNode, node_is_named}
use Rattle.evidence_file.specs.Shown.{leaf_of, leaf_name}
use Rattle.evidence_examine.specs.Laws.{HasLeaf}

-- ---- within an era

module _ (h : History) where
  abbrev l : Layout
  l = layout h

  rises : (a b : ℕ) → a ≤ b → era_of l a ≤ era_of l b
  unfolding era_of
  rises a b le = layouts.era_within l (suc b) a (omega (arith, le))

  next_era : (tile : ℕ) → era_of l (suc tile) ≡ era_of l tile + length (turns l (suc tile))
  unfolding era_of sealed_eras
  next_era tile = length-append (sealed_eras l (suc tile)) (turns l (suc tile))

  none_begins : (es : List Era) → length es ≡ 0 → is_none es ≡ true
  none_begins [] few = refl
  none_begins (e ∷ es) few = absurd (omega (arith, few))

  -- a tile of the same era as the one before it
  on : (tile : ℕ) → era_of l (suc tile) ≡ era_of l tile → is_none (turns l (suc tile)) ≡ true
  on tile same = (let next = next_era tile in none_begins (turns l (suc tile)) (omega (arith, next, same)))

  leaf_on : (tile : ℕ) → era_of l (suc tile) ≡ era_of l tile → leaf_start l (suc tile) ≡ leaf_start l tile + tile_size l tile
  unfolding leaf_start
  leaf_on tile same = ap (λ (b : Bool). cond b (leaf_start l tile + tile_size l tile) 0) (on tile same)

  -- so is a later one: it begins behind it, and has the tree where it has
  later : (a d : ℕ) → era_of l (a + suc d) ≡ era_of l a → (leaf_start l a + tile_size l a ≤ leaf_start l (a + suc d)) × (has_tree l (a + suc d) ≡ has_tree l a)
  later a zero same =
      let next : a + 1 ≡ suc a = omega arith in
      let here : era_of l (suc a) ≡ era_of l a = ap (era_of l) (sym next) ∙ same in
      let leaf : leaf_start l (a + 1) ≡ leaf_start l a + tile_size l a = ap (leaf_start l) next ∙ leaf_on a here in
      (omega (arith, leaf), ap (has_tree l) next ∙ tree_on h a (on a here))
  later a (suc d) same =
      let next : a + suc (suc d) ≡ suc (a + suc d) = omega arith in
      let low = rises a (a + suc d) (omega arith) in
      let high = rises (a + suc d) (suc (a + suc d)) (omega arith) in
      let last : era_of l (suc (a + suc d)) ≡ era_of l a = ap (era_of l) (sym next) ∙ same in
      let before : era_of l (a + suc d) ≡ era_of l a = omega (arith, low, high, last) in
      let here : era_of l (suc (a + suc d)) ≡ era_of l (a + suc d) = last ∙ sym before in
      let others = later a d before in
      let more = others.0 in
      let leaf : leaf_start l (a + suc (suc d)) ≡ leaf_start l (a + suc d) + tile_size l (a + suc d) = ap (leaf_start l) next ∙ leaf_on (a + suc d) here in
      (omega (arith, leaf, more), ap (has_tree l) next ∙ tree_on h (a + suc d) (on (a + suc d) here) ∙ others.1)

  later_tile : (a b : ℕ) → a < b → era_of l b ≡ era_of l a → (leaf_start l a + tile_size l a ≤ leaf_start l b) × (has_tree l b ≡ has_tree l a)
  later_tile a b below same =
      let place : a + suc (b - a - 1) ≡ b = omega (arith, below) in
      let r = later a (b - a - 1) (ap (era_of l) place ∙ same) in
      (subst (λ (t : ℕ). leaf_start l a + tile_size l a ≤ leaf_start l t) place r.0, sym (ap (has_tree l) place) ∙ r.1)

  -- ---- the leaf of a granule

  -- where the name of its leaf is planned, it has one
  own_leaf : (n g : ℕ) → IsNode l n (era_of l (tile_of l g)) 0 (leaf_of l g) → HasLeaf h n g
  own_leaf n g is = elim (cases_lt is.tile (tile_of l g)) [
    | inl past ↦ absurd
        (let r = later_tile is.tile (tile_of l g) past (sym is.own) in
        let behind = r.0 in
        let within = is.within in
        omega (arith, behind, within))
    | inr upto ↦
        (let from = layouts.tile_begins l g in
        let to = layouts.tile_ends l g in
        let last = is.below in
        let below : tile_of l g < n = omega (arith, upto, last) in
        let ends = layouts.ends_within l n (tile_of l g) below in
        (omega (arith, to, ends), tree upto))
  ]
    where
      tree : tile_of l g ≤ is.tile → has_tree l (tile_of l g) ≡ true
      tree upto = elim (cases_lt (tile_of l g) is.tile) [
        | inl below ↦ sym (later_tile (tile_of l g) is.tile below is.own).1 ∙ is.has
        | inr same ↦ (let one : tile_of l g ≡ is.tile = omega (arith, upto, same) in ap (has_tree l) one ∙ is.has)
      ]

  pub planned_leaf : (n g : ℕ) → Contains (planned l n) (leaf_name l g) → HasLeaf h n g
  planned_leaf n g is = own_leaf n g (node_is_named l n (era_of l (tile_of l g)) 0 (leaf_of l g) is)

-- ---- under the same places

module _ (h s : History) (n : ℕ) (places : HasPlacesOf h s n) where
  abbrev tiles : SameTiles n (layout h) (layout s)
  tiles = places.tiles

  back : (tile : ℕ) → tile < n → has_tree (layout h) tile ≡ has_tree (layout s) tile
  back tile below = layouts.same_tree (layout h) (layout s) tile (tiles tile below)

  -- a granule that has a leaf in one has it in the other
  pub same_has : (g : ℕ) → HasLeaf s n g → HasLeaf h n g
  same_has g has =
      let ends : first_granule (layout h) n ≡ first_granule (layout s) n = layouts.same_begins (layout h) (layout s) n tiles in
      let sealed : g < first_granule (layout h) n = (let inside = has.0 in omega (arith, inside, ends)) in
      let tile = layouts.same_tile_of (layout h) (layout s) n g tiles sealed in
      let below = layouts.tile_within (layout h) n (tile_of (layout h) g) g (layouts.tile_begins (layout h) g) sealed in
      (sealed, back (tile_of (layout h) g) below ∙ ap (has_tree (layout s)) tile ∙ has.1)

  -- and it has one name
  pub same_name : (g : ℕ) → g < first_granule (layout h) n → leaf_name (layout h) g ≡ leaf_name (layout s) g
  same_name g sealed =
      let tile = layouts.same_tile_of (layout h) (layout s) n g tiles sealed in
      let own = tile_of (layout h) g in
      let below = layouts.tile_within (layout h) n (tile_of (layout h) g) g (layouts.tile_begins (layout h) g) sealed in
      let era = layouts.same_era_of (layout h) (layout s) n (tile_of (layout h) g) below tiles in
      let leaf = layouts.same_leaf (layout h) (layout s) n (tile_of (layout h) g) below tiles in
      let first = layouts.same_first (layout h) (layout s) n (tile_of (layout h) g) (omega (arith, below)) tiles in
      ap (λ (e : ℕ). node_name e 0 (leaf_of (layout h) g)) era
      ∙ ap (λ (x : ℕ). node_name (era_of (layout s) own) 0 (x + (g - first_granule (layout h) own))) leaf
      ∙ ap (λ (x : ℕ). node_name (era_of (layout s) own) 0 (leaf_start (layout s) own + (g - x))) first
      ∙ ap (λ (t : ℕ). node_name (era_of (layout s) t) 0 (leaf_start (layout s) t + (g - first_granule (layout s) t))) tile

  -- else no name is planned for it
  pub not_planned : (g : ℕ) → (HasLeaf h n g → ⊥) → Contains (planned (layout h) n) (leaf_name (layout s) g) → ⊥
  not_planned g none is = none (same_has g (planned_leaf s n g (subst (λ (names : List Name). Contains names (leaf_name (layout s) g)) (same_planned (layout h) (layout s) n tiles) is)))

-- a granule has a leaf, or has none
pub leaf_or_none : (h : History) (n g : ℕ) → HasLeaf h n g ⊎ (HasLeaf h n g → ⊥)
leaf_or_none h n g = elim (cases_lt g (first_granule (layout h) n)) [
  | inr past ↦ inr (λ has. (let inside = has.0 in omega (arith, inside, past)))
  | inl sealed ↦ elim (cases_Bool (has_tree (layout h) (tile_of (layout h) g))) [
    | inl tree ↦ inl (sealed, tree)
    | inr lacks ↦ inr (λ has. false≢true (sym lacks ∙ has.1))
  ]
]

-- ---- its number

-- a granule's number among those of its era
pub leaf_is : (h : History) (number g granule : ℕ) (era : Era) → number ≡ era_of (layout h) (tile_of (layout h) g) → era_at (policy_of h) number ≡ Some era
    → granule ≡ first_granule (layout h) era.tile → g - granule ≡ leaf_of (layout h) g
unfolding era_granule
leaf_is h number g granule era same is begin =
    let own : era_granule h number ≡ first_granule (layout h) era.tile = ap (granule_of_era h) is in
    let start : era_granule h number ≡ first_granule (layout h) (era_start (layout h) (tile_of (layout h) g)) = ap (era_granule h) same ∙ tree_begins h (tile_of (layout h) g) in
    let place : granule ≡ first_granule (layout h) (era_start (layout h) (tile_of (layout h) g)) = begin ∙ sym own ∙ start in
    let before = layouts.leaves_before (layout h) (tile_of (layout h) g) in
    let from = layouts.tile_begins (layout h) g in
    omega (arith, place, before, from)

-- How many leaves the trees of eras have over the first tiles.
use Rattle.std.proofs.Common.{◌≡◌, ℕ, zero, suc, ◌+◌, ◌-◌, ◌*◌, ◌^◌, ◌<◌, ◌≤◌, Bool, true, false, cond, eqb, List, [], ◌∷◌, ◌++◌, length, refl, sym, ap, subst, ◌∙◌, ◌⊎◌, inl, inr, Option, Some, None, arith}
use Rattle.std.specs.List.{Contains, slice_get}
use Rattle.std.proofs.lemmas.Bool.{false≢true, cases_Bool, cases_lt, eq-eqb, eqb-true, ne_eqb}
use Rattle.std.proofs.lemmas.Nat.{pow_pos}
use Rattle.std.proofs.lemmas.List.{append-nil, length-append}
use Rattle.history_model.specs.History.{History}
use Rattle.digest_model.specs.Layout.{Layout, Era, layout, policy_of, era_at, first_granule, tile_size, has_tree, is_none, turns, sealed_eras, era_of, era_start, leaf_start}
use Rattle.digest_model.specs.Digests.{granule_of_era, era_granule}
use Rattle.digest_model.proofs.Layouts.{adjoin, ends_within, leaves_before, era_within}
use Rattle.digest_model.proofs.Eras.{tree_begins, tree_on, sealed_come_first, get_within}
use Rattle.std.proofs.lemmas.Option.{none-some}
use Rattle.audit_model.specs.Names.{planned, node_name}
use Rattle.audit_model.proofs.TreeAudit.{node_in_tile, low_level}
use Rattle.tile_seals.specs.Places.{tree_leaves}

module _ (l : Layout) where
  next_tile : (tile : ℕ) → first_granule l (suc tile) ≡ first_granule l tile + tile_size l tile
  next_tile tile = (let next : tile + 1 ≡ suc tile = omega arith in sym (subst (λ (m : ℕ). first_granule l tile + tile_size l tile ≡ first_granule l m) next (adjoin l tile)))

  -- the granules of a tile that has the tree are leaves of its era's
  pub leaves_more : (era tile : ℕ) → era_of l tile ≡ era → has_tree l tile ≡ true → tree_leaves l era (suc tile) ≡ tree_leaves l era tile + tile_size l tile
  unfolding tree_leaves
  leaves_more era tile own has = (let is : eqb (era_of l tile) era ≡ true = eq-eqb (era_of l tile) era own in rw (is, has) refl)

  -- and of no other
  pub leaves_stay : (era tile : ℕ) → (era_of l tile ≡ era → has_tree l tile ≡ true → ⊥) → tree_leaves l era (suc tile) ≡ tree_leaves l era tile
  unfolding tree_leaves
  leaves_stay era tile never = elim (cases_Bool (eqb (era_of l tile) era)) [
    | inl is ↦ elim (cases_Bool (has_tree l tile)) [
      | inl has ↦ absurd (never (eqb-true (era_of l tile) era is) has)
      | inr none ↦ rw (is, none) refl
    ]
    | inr other ↦ rw other refl
  ]

  -- of each tile one of both holds
  either : (era tile : ℕ) → ((era_of l tile ≡ era) × (has_tree l tile ≡ true)) ⊎ (era_of l tile ≡ era → has_tree l tile ≡ true → ⊥)
  either era tile = elim (cases_Bool (eqb (era_of l tile) era)) [
    | inl is ↦ elim (cases_Bool (has_tree l tile)) [
      | inl has ↦ inl (eqb-true (era_of l tile) era is, has)
      | inr none ↦ inr (λ e has. false≢true (sym none ∙ has))
    ]
    | inr other ↦ inr (λ e has. false≢true (sym other ∙ eq-eqb (era_of l tile) era e))
  ]

  rises_by : (era a d : ℕ) → tree_leaves l era a ≤ tree_leaves l era (a + d)
  rises_by era a zero = (let same : a + 0 ≡ a = omega arith in rw same (omega arith))
  rises_by era a (suc d) =
      let next : a + suc d ≡ suc (a + d) = omega arith in
      let before = rises_by era a d in
      rw next (elim (either era (a + d)) [
        | inl own ↦ (let more = leaves_more era (a + d) own.0 own.1 in omega (arith, before, more))
        | inr other ↦ (let same = leaves_stay era (a + d) other in omega (arith, before, same))
      ])

  pub leaves_rise : (era a b : ℕ) → a ≤ b → tree_leaves l era a ≤ tree_leaves l era b
  leaves_rise era a b le = (let parts : a + (b - a) ≡ b = omega (arith, le) in subst (λ (n : ℕ). tree_leaves l era a ≤ tree_leaves l era n) parts (rises_by era a (b - a)))

  pub leaves_within : (era n : ℕ) → tree_leaves l era n ≤ first_granule l n
  unfolding tree_leaves
  leaves_within era zero = omega arith
  leaves_within era (suc n) =
      let before = leaves_within era n in
      let next = next_tile n in
      elim (either era n) [
        | inl own ↦ (let more = leaves_more era n own.0 own.1 in omega (arith, before, more, next))
        | inr other ↦ (let same = leaves_stay era n other in omega (arith, before, same, next))
      ]

  none_yet : (era n : ℕ) → ((tile : ℕ) → tile < n → era_of l tile < era) → tree_leaves l era n ≡ 0
  unfolding tree_leaves
  none_yet era zero low = refl
  none_yet era (suc n) low =
      leaves_stay era n (λ e has. (let before = low n (omega arith) in omega (arith, e, before)))
      ∙ none_yet era n (λ tile below. low tile (omega (arith, below)))

  -- the tile that a leaf lies in
  pub record IsLeafAt (era n leaf : ℕ) : Type 0 where
    tile : ℕ
    below : tile < n
    own : era_of l tile ≡ era
    has : has_tree l tile ≡ true
    from : tree_leaves l era tile ≤ leaf
    to : leaf < tree_leaves l era tile + tile_size l tile

  pub tile_of_leaf : (era n leaf : ℕ) → leaf < tree_leaves l era n → IsLeafAt era n leaf
  unfolding tree_leaves
  tile_of_leaf era zero leaf lt = absurd (omega (arith, lt))
  tile_of_leaf era (suc n) leaf lt = elim (cases_lt leaf (tree_leaves l era n)) [
    | inl low ↦ (let r = tile_of_leaf era n leaf low in let inside = r.below in record { tile = r.tile; below = omega (arith, inside); own = r.own; has = r.has; from = r.from; to = r.to })
    | inr high ↦ elim (either era n) [
      | inl own ↦ (let more = leaves_more era n own.0 own.1 in record { tile = n; below = omega arith; own = own.0; has = own.1; from = high; to = omega (arith, lt, more) })
      | inr other ↦ absurd (let same = leaves_stay era n other in omega (arith, lt, same, high))
    ]
  ]

  -- eras ascend with their tiles
  eras_rise : (a b : ℕ) → a ≤ b → era_of l a ≤ era_of l b
  unfolding era_of
  eras_rise a b le = era_within l (suc b) a (omega (arith, le))

  era_next : (tile : ℕ) → era_of l (suc tile) ≡ era_of l tile + length (turns l (suc tile))
  unfolding era_of sealed_eras
  era_next tile = length-append (sealed_eras l (suc tile)) (turns l (suc tile))

  none_are : (xs : List Era) → is_none xs ≡ true → length xs ≡ 0
  none_are [] none = refl
  none_are (x ∷ xs) none = absurd (false≢true none)

  some_are : (xs : List Era) → is_none xs ≡ false → 0 < length xs
  some_are [] some = absurd (false≢true (sym some))
  some_are (x ∷ xs) some = omega arith

module _ (h : History) where
  -- the leaves of a tile's era before the tile
  pub leaf_begin : (tile : ℕ) → has_tree (layout h) tile ≡ true → tree_leaves (layout h) (era_of (layout h) tile) tile ≡ leaf_start (layout h) tile
  unfolding tree_leaves leaf_start
  leaf_begin zero has = refl
  leaf_begin (suc tile) has = elim (cases_Bool (is_none (turns (layout h) (suc tile)))) [
    | inl none ↦
        (let count = none_are (layout h) (turns (layout h) (suc tile)) none in
        let same : era_of (layout h) (suc tile) ≡ era_of (layout h) tile = (let next = era_next (layout h) tile in omega (arith, next, count)) in
        let had : has_tree (layout h) tile ≡ true = sym (tree_on h tile none) ∙ has in
        let before = leaf_begin tile had in
        ap (λ (e : ℕ). tree_leaves (layout h) e (suc tile)) same
        ∙ leaves_more (layout h) (era_of (layout h) tile) tile refl had
        ∙ ap (λ (m : ℕ). m + tile_size (layout h) tile) before
        ∙ sym (ap (λ (b : Bool). cond b (leaf_start (layout h) tile + tile_size (layout h) tile) 0) none))
    | inr some ↦
        (let count = some_are (layout h) (turns (layout h) (suc tile)) some in
        let next = era_next (layout h) tile in
        none_yet (layout h) (era_of (layout h) (suc tile)) (suc tile)
        (λ t below. (let up = eras_rise (layout h) t tile (omega (arith, below)) in omega (arith, up, next, count)))
        ∙ sym (ap (λ (b : Bool). cond b (leaf_start (layout h) tile + tile_size (layout h) tile) 0) some))
  ]

  -- a node under which all granules are leaves of the first tiles is planned
  pub tree_planned : (n era level index : ℕ) → (index + 1) * 2 ^ level ≤ tree_leaves (layout h) era n → first_granule (layout h) n ≤ 1048576
      → Contains (planned (layout h) n) (node_name era level index)
  tree_planned n era level index within small =
      let some = pow_pos level in
      let last : (index + 1) * 2 ^ level - 1 + 1 ≡ (index + 1) * 2 ^ level = omega (arith, some) in
      let r = tile_of_leaf (layout h) era n ((index + 1) * 2 ^ level - 1) (omega (arith, within, last)) in
      let few = leaves_within (layout h) era n in
      let low = low_level level index (tree_leaves (layout h) era n) within (omega (arith, few, small)) in
      let begin : tree_leaves (layout h) era r.tile ≡ leaf_start (layout h) r.tile = ap (λ (e : ℕ). tree_leaves (layout h) e r.tile) (sym r.own) ∙ leaf_begin r.tile r.has in
      let from = r.from in
      let to = r.to in
      subst (λ (e : ℕ). Contains (planned (layout h) n) (node_name e level index)) r.own
      (node_in_tile (layout h) n r.tile level index ((index + 1) * 2 ^ level - 1) r.has r.below last low (omega (arith, from, begin)) (omega (arith, to, begin)))

  -- the leaves of a tile are among those of the first tiles
  pub tree_reaches : (n tile leaf : ℕ) → tile < n → has_tree (layout h) tile ≡ true → leaf ≤ leaf_start (layout h) tile + tile_size (layout h) tile → leaf ≤ tree_leaves (layout h) (era_of (layout h) tile) n
  tree_reaches n tile leaf below has within =
      let begin = leaf_begin tile has in
      let more = leaves_more (layout h) (era_of (layout h) tile) tile refl has in
      let up = leaves_rise (layout h) (era_of (layout h) tile) (suc tile) n (omega (arith, below)) in
      omega (arith, within, begin, more, up)

  -- where a leaf lies
  pub leaf_lies : (n era leaf : ℕ) → leaf < tree_leaves (layout h) era n → era_granule h era + leaf < first_granule (layout h) n
  leaf_lies n era leaf lt =
      let r = tile_of_leaf (layout h) era n leaf lt in
      let begin : tree_leaves (layout h) era r.tile ≡ leaf_start (layout h) r.tile = ap (λ (e : ℕ). tree_leaves (layout h) e r.tile) (sym r.own) ∙ leaf_begin r.tile r.has in
      let first : era_granule h era ≡ first_granule (layout h) (era_start (layout h) r.tile) = ap (era_granule h) (sym r.own) ∙ tree_begins h r.tile in
      let place = leaves_before (layout h) r.tile in
      let ends = ends_within (layout h) n r.tile r.below in
      let to = r.to in
      omega (arith, begin, first, place, ends, to)

  -- those of the first tiles are among those of the history
  pub sealed_counted : (n : ℕ) → length (sealed_eras (layout h) n) ≤ length (policy_of h).later
  sealed_counted n =
      let r = sealed_come_first h n in
      let all = ap length r.1 ∙ length-append (sealed_eras (layout h) n) r.0 in
      omega (arith, all)

  -- the eras of tiles are among those of the history
  pub era_counted : (tile : ℕ) → era_of (layout h) tile ≤ length (policy_of h).later
  unfolding era_of
  era_counted tile = sealed_counted (suc tile)

  -- so each is there
  some_there : (es : List Era) (e : ℕ) → e < length es → slice_get es e ≡ None → ⊥
  some_there es e below none = (let got = get_within es e below in none-some got.0 (sym none ∙ got.1))

  pub era_there : (number : ℕ) → number ≤ length (policy_of h).later → era_at (policy_of h) number ≡ None → ⊥
  era_there zero within none = none-some (policy_of h).first (sym none)
  era_there (suc e) within none = some_there (policy_of h).later e (omega (arith, within)) none

  -- where the leaves of a tile begin, by the granules of the tile and of its era
  pub start_is : (tile number first granule : ℕ) (era : Era) → number ≡ era_of (layout h) tile → era_at (policy_of h) number ≡ Some era
      → granule ≡ first_granule (layout h) era.tile → first ≡ first_granule (layout h) tile → first - granule ≡ leaf_start (layout h) tile
  unfolding era_granule
  start_is tile number first granule era same is begin place =
      let own : era_granule h number ≡ first_granule (layout h) era.tile = ap (granule_of_era h) is in
      let start : era_granule h number ≡ first_granule (layout h) (era_start (layout h) tile) = ap (era_granule h) same ∙ tree_begins h tile in
      let before = leaves_before (layout h) tile in
      omega (arith, own, start, before, begin, place)

-- What is found at the place of a name.
use Rattle.std.proofs.Common.{◌≡◌, ◌↔◌, ℕ, suc, ◌+◌, ◌-◌, ◌*◌, ◌/◌, ◌^◌, ◌<◌, ◌≤◌, List, [], true, length, get_or, map, Option, Some, None, IfSome, IsSome, refl, sym, ap, subst, ◌∙◌, ◌⊎◌, inl, inr, arith}
use Rattle.std.specs.List.{Contains, range_with_len, slice_get}
use Rattle.sha2.specs.Sha256.{sha256}
use Rattle.std.proofs.lemmas.Bool.{false≢true, cases_lt}
use Rattle.std.proofs.lemmas.Nat.{mul-le, pow_pos}
use Rattle.std.proofs.lemmas.List.{get_or_past}
use Rattle.std.proofs.lemmas.List.FromFn.{length-map-range_with_len, get_or-map-range_with_len}
use Rattle.std.proofs.lemmas.Option.{slice_get-get_or, slice_get_past}
use Rattle.std.proofs.Math.Nat.{le-div_iff_mul-le}
use Rattle.std.proofs.Math.Pow.{pow_mono}
use Rattle.notary_link.specs.declared.name.Name.{Name}
use Rattle.notary_link.specs.declared.name.Name.TheVariants as names
use Rattle.history_model.specs.History.{History}
use Rattle.digest_model.specs.Layout.{Era, layout, policy_of, era_at, exponent, first_granule, has_tile_chains, sealed_eras, whole}
use Rattle.digest_model.specs.Digests.{header_digest, era_input, digest_of_era, era_digest, era_granule, cum, tile_digest, node_digest}
use Rattle.audit_model.specs.Names.{planned, digest, batch_names, node_name}
use Rattle.audit_model.proofs.Planned.{era_planned, cum_planned, part_planned}
use Rattle.audit_model.proofs.EraNodes.{digest_of_node}
use Rattle.digest_model.proofs.Members.{here, Contains-flat_map}
use Rattle.digest_model.proofs.Lists.{in_range}
use Rattle.tile_seals.specs.Found.{IsPlannedDigest}
use Rattle.tile_seals.specs.Places.{part_at, parts_below, parts_start, level_of, levels_of, tree_leaves, forest_of}
use Rattle.tile_seals.proofs.Levels.{level_at, levels_count}
use Rattle.tile_seals.proofs.Naming.{named, node_is_named}
use Rattle.tile_seals.proofs.SideBySide.{part_there}
use Rattle.tile_seals.proofs.Trees.{leaves_within, tree_planned, tree_reaches, era_counted}

pub renamed : (h : History) (tiles : ℕ) (a b : Name) (r : Option (List ℕ)) → b ≡ a → IsPlannedDigest h tiles a r → IsPlannedDigest h tiles b r
renamed h tiles a b r same = subst (λ (x : Name). IsPlannedDigest h tiles x r) (sym same)

pub answered : (h : History) (tiles : ℕ) (name : Name) (a b : Option (List ℕ)) → b ≡ a → IsPlannedDigest h tiles name a → IsPlannedDigest h tiles name b
answered h tiles name a b same = subst (λ (r : Option (List ℕ)). IsPlannedDigest h tiles name r) (sym same)

-- a value, and exactly where a fact holds
abbrev Exactly : Option (List ℕ) → List ℕ → Type 0 → Type 0
Exactly r d P = IfSome r (λ x. x ≡ d) × (IsSome r ↔ P)

some_if : (d : List ℕ) (P : Type 0) → P → Exactly (Some d) d P
some_if d P p = (refl, (λ _. p, λ _. refl))

none_if : (d : List ℕ) (P : Type 0) → (P → ⊥) → Exactly None d P
none_if d P never = (tt, (λ e. absurd (false≢true e), λ p. absurd (never p)))

at_place : (f : ℕ → List ℕ) (n i : ℕ) → Exactly (slice_get (map f (range_with_len 0 n)) i) (f i) (i < n)
at_place f n i = elim (cases_lt i n) [
  | inl lt ↦
      (let long = length-map-range_with_len f 0 n in
      let e : slice_get (map f (range_with_len 0 n)) i ≡ Some (f i) =
      slice_get-get_or (map f (range_with_len 0 n)) i [] (omega (arith, long, lt)) ∙ ap (λ (x : List ℕ). Some x) (get_or-map-range_with_len f 0 n i i [] lt (omega arith)) in
      subst (λ (r : Option (List ℕ)). Exactly r (f i) (i < n)) (sym e) (some_if (f i) (i < n) lt))
  | inr ge ↦
      (let long = length-map-range_with_len f 0 n in
      let e : slice_get (map f (range_with_len 0 n)) i ≡ None = slice_get_past (map f (range_with_len 0 n)) i (omega (arith, long, ge)) in
      subst (λ (r : Option (List ℕ)). Exactly r (f i) (i < n)) (sym e) (none_if (f i) (i < n) (λ lt. omega (arith, lt, ge))))
]

-- the same, where another fact holds at the same time
turned : (r : Option (List ℕ)) (c d : List ℕ) (P Q : Type 0) → Exactly r c P → c ≡ d → (P → Q) → (Q → P) → Exactly r d Q
turned None c d P Q (value, is) same to from = (tt, (λ e. to (is.0 e), λ q. is.1 (from q)))
turned (Some x) c d P Q (value, is) same to from = (value ∙ same, (λ e. to (is.0 e), λ q. is.1 (from q)))

module _ (h : History) (tiles : ℕ) where
  as_found : (name : Name) (r : Option (List ℕ)) → Exactly r (digest h name) (Contains (planned (layout h) tiles) name) → IsPlannedDigest h tiles name r
  as_found name r is = record { value = is.0; planned = is.1 }

  some_found : (name : Name) (d : List ℕ) → d ≡ digest h name → Contains (planned (layout h) tiles) name → IsPlannedDigest h tiles name (Some d)
  some_found name d same is = as_found name (Some d) (same, (λ _. is, λ _. refl))

  none_found : (name : Name) → (Contains (planned (layout h) tiles) name → ⊥) → IsPlannedDigest h tiles name None
  none_found name never = as_found name None (none_if (digest h name) (Contains (planned (layout h) tiles) name) never)

  -- ---- the header and the chain

  pub header_found : IsPlannedDigest h tiles names.Header (Some (header_digest h.header))
  unfolding planned batch_names digest
  header_found = some_found names.Header (header_digest h.header) refl
      (Contains-flat_map (batch_names (layout h)) (range_with_len 0 (tiles + 1)) 0 names.Header (in_range 0 (tiles + 1) 0 (omega arith) (omega arith)) (here names.Header []))

  pub cum_found : (tile : ℕ) → IsPlannedDigest h tiles (names.Cum tile) (slice_get (map (cum h) (range_with_len 0 tiles)) tile)
  unfolding digest
  cum_found tile = as_found (names.Cum tile) (slice_get (map (cum h) (range_with_len 0 tiles)) tile)
      (turned (slice_get (map (cum h) (range_with_len 0 tiles)) tile) (cum h tile) (cum h tile) (tile < tiles) (Contains (planned (layout h) tiles) (names.Cum tile))
      (at_place (cum h) tiles tile) refl (cum_planned (layout h) tiles tile) (named (layout h) tiles (names.Cum tile)))

  -- ---- eras

  pub era_found : (number granule : ℕ) (era : Era) → 1 ≤ number → number ≤ length (sealed_eras (layout h) tiles)
      → era_at (policy_of h) number ≡ Some era → granule ≡ first_granule (layout h) era.tile
      → IsPlannedDigest h tiles (names.Era number) (Some (sha256 (era_input number era granule)))
  unfolding digest era_digest
  era_found number granule era some within is place =
      let next : suc (number - 1) ≡ number = omega (arith, some) in
      some_found (names.Era number) (sha256 (era_input number era granule))
      (ap (λ (g : ℕ). sha256 (era_input number era g)) place ∙ sym (ap (digest_of_era h number) is))
      (subst (λ (e : ℕ). Contains (planned (layout h) tiles) (names.Era e)) next (era_planned (layout h) tiles (number - 1) (omega (arith, some, within))))

  pub no_era : (number : ℕ) → (1 ≤ number → number ≤ length (sealed_eras (layout h) tiles) → ⊥) → IsPlannedDigest h tiles (names.Era number) None
  no_era number never = none_found (names.Era number) (λ is. (let n = named (layout h) tiles (names.Era number) is in never n.0 n.1))

  -- ---- the parts of tiles

  pub part_found : (tile part place : ℕ) → has_tile_chains (layout h) tile ≡ true → tile < tiles → place ≤ exponent (layout h) tile
      → part_at place ≡ part → (part ≡ whole) ⊎ (part < exponent (layout h) tile)
      → IsPlannedDigest h tiles (names.Tile tile part) (slice_get (parts_below h tiles) (parts_start h tile + place))
  unfolding digest
  part_found tile part place has below low is some =
      answered h tiles (names.Tile tile part) (Some (tile_digest h tile (part_at place))) (slice_get (parts_below h tiles) (parts_start h tile + place))
      (part_there h tiles tile place below has low)
      (some_found (names.Tile tile part) (tile_digest h tile (part_at place)) (ap (tile_digest h tile) is) (part_planned (layout h) tiles tile part has below some))

  pub no_part : (tile part : ℕ) → (has_tile_chains (layout h) tile ≡ true → tile < tiles → (part ≡ whole) ⊎ (part < exponent (layout h) tile) → ⊥)
      → IsPlannedDigest h tiles (names.Tile tile part) None
  no_part tile part never = none_found (names.Tile tile part) (λ is. (let n = named (layout h) tiles (names.Tile tile part) is in never n.0 n.1 n.2))

  -- ---- nodes

  under : (era level index : ℕ) → Contains (planned (layout h) tiles) (node_name era level index) → (index + 1) * 2 ^ level ≤ tree_leaves (layout h) era tiles
  under era level index is =
      let n = node_is_named (layout h) tiles era level index is in
      subst (λ (e : ℕ). (index + 1) * 2 ^ level ≤ tree_leaves (layout h) e tiles) n.own (tree_reaches h tiles n.tile ((index + 1) * 2 ^ level) n.below n.has n.within)

  level_found : (era level index : ℕ) → first_granule (layout h) tiles ≤ 1048576
      → IsPlannedDigest h tiles (node_name era level index) (slice_get (level_of h (era_granule h era) (tree_leaves (layout h) era tiles) level) index)
  level_found era level index small =
      as_found (node_name era level index) (slice_get (level_of h (era_granule h era) (tree_leaves (layout h) era tiles) level) index)
      (turned (slice_get (level_of h (era_granule h era) (tree_leaves (layout h) era tiles) level) index)
      (node_digest h (era_granule h era) level index) (digest h (node_name era level index))
      (index < tree_leaves (layout h) era tiles / 2 ^ level) (Contains (planned (layout h) tiles) (node_name era level index))
      (at_place (node_digest h (era_granule h era) level) (tree_leaves (layout h) era tiles / 2 ^ level) index)
      (sym (digest_of_node h era level index))
      (λ lt. tree_planned h tiles era level index ((le-div_iff_mul-le {k = 2 ^ level} {x = index + 1} {y = tree_leaves (layout h) era tiles} (pow_pos level)).0 (omega (arith, lt))) small)
      (λ is. (let many = (le-div_iff_mul-le {k = 2 ^ level} {x = index + 1} {y = tree_leaves (layout h) era tiles} (pow_pos level)).1 (under era level index is) in omega (arith, many))))

  pub node_found : (era level index : ℕ) → first_granule (layout h) tiles ≤ 1048576
      → IsPlannedDigest h tiles (node_name era level index) (slice_get (get_or (forest_of h tiles era) level []) index)
  node_found era level index small = elim (cases_lt level 21) [
    | inl low ↦
        (let e = level_at h (era_granule h era) (tree_leaves (layout h) era tiles) level low in
        subst (λ (x : List (List ℕ)). IsPlannedDigest h tiles (node_name era level index) (slice_get x index)) (sym e) (level_found era level index small))
    | inr high ↦
        (let long = levels_count h (era_granule h era) (tree_leaves (layout h) era tiles) in
        let e = get_or_past (levels_of h (era_granule h era) (tree_leaves (layout h) era tiles)) level [] (omega (arith, long, high)) in
        subst (λ (x : List (List ℕ)). IsPlannedDigest h tiles (node_name era level index) (slice_get x index)) (sym e)
        (none_found (node_name era level index) (too_high era level index small high)))
  ]
    where
      too_high : (era level index : ℕ) → first_granule (layout h) tiles ≤ 1048576 → 21 ≤ level → Contains (planned (layout h) tiles) (node_name era level index) → ⊥
      too_high era level index small high is =
          let within = under era level index is in
          let few = leaves_within (layout h) era tiles in
          let more : 2 ^ 21 ≤ 2 ^ level = pow_mono high in
          let all : 1 * 2 ^ level ≤ (index + 1) * 2 ^ level = mul-le 1 (2 ^ level) (index + 1) (2 ^ level) (omega arith) (omega arith) in
          omega (arith, more, all, within, few, small)

  -- no tile is of an era that isn't there
  pub no_tree : (era level index : ℕ) → 1 + length (policy_of h).later ≤ era → IsPlannedDigest h tiles (node_name era level index) None
  no_tree era level index past = none_found (node_name era level index)
      (λ is. (let n = node_is_named (layout h) tiles era level index is in let own = n.own in let known = era_counted h n.tile in omega (arith, past, own, known)))

  -- nodes of the first era have a name of their own
  pub no_node : (level index : ℕ) → IsPlannedDigest h tiles (names.EraNode 0 level index) None
  no_node level index = none_found (names.EraNode 0 level index) (λ is. (let n = named (layout h) tiles (names.EraNode 0 level index) is in omega (arith, n.0)))

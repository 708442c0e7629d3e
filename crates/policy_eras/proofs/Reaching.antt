-- The era of a tile, and the first granules of tiles by it.
use Rattle.std.proofs.Common.{◌≡◌, ℕ, zero, suc, ◌+◌, ◌-◌, ◌*◌, ◌/◌, ◌^◌, ◌<◌, ◌≤◌, nat_le, nat_lt, Bool, true, false, cond, List, [], ◌∷◌, ◌++◌, map, length, filter, refl, sym, ap, subst, ◌∙◌, inl, inr, Option, Some, None, arith}
use Rattle.std.specs.Prelude.{◌&&◌, ◌==◌, nat_eq, Decides, IfSome}
use Rattle.std.specs.List.{All, Contains, slice_get}
use Rattle.std.specs.Option.{option_map}
use Rattle.std.proofs.lemmas.Bool.{cases_Bool, cases_lt, and_parts, and_from, eqb-true, eq-eqb}
use Rattle.std.proofs.lemmas.Bool.Decides.{nat_tests}
use Rattle.std.proofs.Math.Pow.{pow_mono}
use Rattle.std.proofs.lemmas.Nat.{mul-le, pow_pos, shr_split, mod_below}
use Rattle.std.proofs.lemmas.List.{map-append, length-append, length-map}
use Rattle.std.proofs.lemmas.List.Elements.{All-nil, All-cons, All-head, All-tail, All-append, All-contains, All-weaker, All-contains_itself, filter-append, Contains-append_left, Contains-append_right}
use Rattle.digest_model.specs.Layout.{Layout, Era, Policy, SameTiles, layout_by, era_in, last_tile, is_next, exponent, first_granule, tile_of, era_of}
use Rattle.digest_model.specs.Eras.{Ascends, is_below}
use Rattle.digest_model.proofs.EraLaws.{pushed, later_era, within_era}
use Rattle.digest_model.proofs.Layouts as layouts
use Rattle.digest_model.proofs.Eras.{next_is, ascends_pushed, sealed_of}
use Rattle.digest_model.proofs.Members.{here, Contains-map}
use Rattle.policy_eras.specs.declared.era.Era.{Era as Kept}
use Rattle.policy_eras.specs.Policy.{as_era, policy, IsPlaced, AreEras, IsLastAt, IsLastWithin}

-- ---- the last era up to a tile

abbrev pub no_era : Kept
no_era = record { tile = 0; granule = 0; k = 0; algs = 0 }

pub last_of_none : (first : Kept) (tile : ℕ) → first.tile ≤ tile → IsLastAt first [] tile first
unfolding era_in
last_of_none first tile from = record { value = refl; from = from; known = inl refl }

pub last_next : (first : Kept) (later : List Kept) (tile : ℕ) (found next : Kept) → IsLastAt first later tile found → IsLastAt first (later ++ next ∷ []) tile (cond (nat_le next.tile tile) next found)
last_next first later tile found next is =
    let split : map as_era (later ++ next ∷ []) ≡ map as_era later ++ as_era next ∷ [] = map-append as_era later (next ∷ []) in
    let more : era_in (as_era first) (map as_era (later ++ next ∷ [])) tile ≡ cond (nat_le next.tile tile) (as_era next) (era_in (as_era first) (map as_era later) tile) =
    ap (λ (es : List Era). era_in (as_era first) es tile) split ∙ pushed (as_era first) (map as_era later) (as_era next) tile in
    elim (cases_Bool (nat_le next.tile tile)) [
      | inl reached ↦ rw reached (record {
        value = sym (more ∙ ap (λ (b : Bool). cond b (as_era next) (era_in (as_era first) (map as_era later) tile)) reached);
        from = grind (arith, nat_tests, reached);
        known = inr (Contains-append_right later (next ∷ []) next (here next []));
      })
      | inr not_yet ↦ rw not_yet (record {
        value = is.value ∙ sym (more ∙ ap (λ (b : Bool). cond b (as_era next) (era_in (as_era first) (map as_era later) tile)) not_yet);
        from = is.from;
        known = elim is.known [ inl own ↦ inl own | inr among ↦ inr (Contains-append_left later (next ∷ []) found among) ];
      })
    ]

-- ---- from an era on it stays

weaker : (a b : ℕ) (es : List Era) → b ≤ a → Ascends a es → Ascends b es
weaker a b [] le up = tt
weaker a b (e ∷ es) le up = (let place = up.0 in omega (arith, le, place), up.1)

behind_first : (e : Era) (later : List Era) (tile : ℕ) → Ascends e.tile later → e.tile ≤ (era_in e later tile).tile
unfolding era_in
behind_first e [] tile up = omega arith
behind_first e (next ∷ later) tile up = elim (cases_Bool (nat_le next.tile tile)) [
  | inl reached ↦ subst (λ (b : Bool). e.tile ≤ (era_in (cond b next e) later tile).tile) (sym reached) (let rest = behind_first next later tile up.1 in let place = up.0 in omega (arith, rest, place))
  | inr not_yet ↦ subst (λ (b : Bool). e.tile ≤ (era_in (cond b next e) later tile).tile) (sym not_yet) (behind_first e later tile (weaker next.tile e.tile later up.0 up.1))
]

stays_in : (e : Era) (later : List Era) (t tile : ℕ) → Ascends e.tile later → (era_in e later tile).tile ≤ t → t ≤ tile → era_in e later t ≡ era_in e later tile
unfolding era_in
stays_in e [] t tile up from to = refl
stays_in e (next ∷ later) t tile up from to = elim (cases_Bool (nat_le next.tile tile)) [
  | inl reached ↦
      (let own : (era_in next later tile).tile ≤ t = subst (λ (b : Bool). (era_in (cond b next e) later tile).tile ≤ t) reached from in
      let behind = behind_first next later tile up.1 in
      let also : nat_le next.tile t ≡ true = grind (arith, nat_tests, own, behind) in
      ap (λ (b : Bool). era_in (cond b next e) later t) also ∙ stays_in next later t tile up.1 own to ∙ ap (λ (b : Bool). era_in (cond b next e) later tile) (sym reached))
  | inr not_yet ↦
      (let own : (era_in e later tile).tile ≤ t = subst (λ (b : Bool). (era_in (cond b next e) later tile).tile ≤ t) not_yet from in
      let also : nat_le next.tile t ≡ false = grind (arith, nat_tests, not_yet, to) in
      ap (λ (b : Bool). era_in (cond b next e) later t) also ∙ stays_in e later t tile (weaker next.tile e.tile later up.0 up.1) own to ∙ ap (λ (b : Bool). era_in (cond b next e) later tile) (sym not_yet))
]

placed : (first : Kept) (later : List Kept) (tile : ℕ) (e : Kept) → AreEras first later → IsLastAt first later tile e → IsPlaced (policy first later) e
placed first later tile e are is = elim is.known [
  | inl own ↦ subst (IsPlaced (policy first later)) (sym own) are.head
  | inr among ↦ All-contains (IsPlaced (policy first later)) later e are.each among
]

pub small_exponent : (first : Kept) (later : List Kept) (tile : ℕ) (e : Kept) → AreEras first later → IsLastAt first later tile e → e.k ≤ 10
small_exponent first later tile e are is = (placed first later tile e are is).1

-- the first granule of a tile by its era
pub first_is : (first : Kept) (later : List Kept) (tile : ℕ) (e : Kept) → AreEras first later → IsLastAt first later tile e
    → e.granule + (tile - e.tile) * 2 ^ e.k ≡ first_granule (layout_by (policy first later)) tile
unfolding exponent
first_is first later tile e are is =
    let from = is.from in
    let own = (placed first later tile e are is).0 in
    let parts : e.tile + (tile - e.tile) ≡ tile = omega (arith, from) in
    let formula = within_era (layout_by (policy first later)) e.tile (tile - e.tile) e.k (λ t low high.
    let begin : (era_in (as_era first) (map as_era later) tile).tile ≤ t = subst (λ (x : Era). x.tile ≤ t) is.value low in
    let same = stays_in (as_era first) (map as_era later) t tile are.ascend begin (omega (arith, high, parts)) in
    ap (λ (x : Era). x.k) (same ∙ sym is.value)) in
    ap (λ (g : ℕ). g + (tile - e.tile) * 2 ^ e.k) own ∙ sym formula ∙ ap (first_granule (layout_by (policy first later))) parts

-- a tile begins within 2 to the 42nd granules
pub first_small : (first : Kept) (later : List Kept) (tile : ℕ) (e : Kept) → AreEras first later → IsLastAt first later tile e → tile < 2 ^ 32 → e.granule < 2 ^ 32
    → first_granule (layout_by (policy first later)) tile < 2 ^ 43
first_small first later tile e are is low granule =
    let small : 2 ^ e.k ≤ 2 ^ 10 = pow_mono (small_exponent first later tile e are is) in
    let most : (tile - e.tile) * 2 ^ e.k ≤ 4294967296 * 2 ^ 10 = mul-le (tile - e.tile) (2 ^ e.k) 4294967296 (2 ^ 10) (omega (arith, low)) small in
    let formula = first_is first later tile e are is in
    omega (arith, formula, most, granule)

-- ---- how many have begun

pub counted_next : (tile : ℕ) (seen : List Kept) (e : Kept) → length (filter (is_below (tile + 1)) (map as_era (seen ++ e ∷ []))) ≡ length (filter (is_below (tile + 1)) (map as_era seen)) + cond (nat_le e.tile tile) 1 0
counted_next tile seen e =
    let split : map as_era (seen ++ e ∷ []) ≡ map as_era seen ++ as_era e ∷ [] = map-append as_era seen (e ∷ []) in
    let parts = filter-append (is_below (tile + 1)) (map as_era seen) (as_era e ∷ []) in
    let long = length-append (filter (is_below (tile + 1)) (map as_era seen)) (filter (is_below (tile + 1)) (as_era e ∷ [])) in
    let whole : length (filter (is_below (tile + 1)) (map as_era (seen ++ e ∷ []))) ≡ length (filter (is_below (tile + 1)) (map as_era seen)) + length (filter (is_below (tile + 1)) (as_era e ∷ [])) =
    ap (λ (es : List Era). length (filter (is_below (tile + 1)) es)) split ∙ ap (length {A = Era}) parts ∙ long in
    elim (cases_Bool (nat_le e.tile tile)) [
      | inl reached ↦ (let test : is_below (tile + 1) (as_era e) ≡ true = grind (arith, nat_tests, reached) in let one : length (filter (is_below (tile + 1)) (as_era e ∷ [])) ≡ 1 = rw test refl in rw reached (omega (arith, whole, one)))
      | inr not_yet ↦ (let test : is_below (tile + 1) (as_era e) ≡ false = grind (arith, nat_tests, not_yet) in let none : length (filter (is_below (tile + 1)) (as_era e ∷ [])) ≡ 0 = rw test refl in rw not_yet (omega (arith, whole, none)))
    ]

-- ---- the last era up to a granule

each_of : {X : Type 0} (P : X → Type 0) (xs : List X) → ((x : X) → Contains xs x → P x) → All P xs
each_of P xs h = All-weaker (Contains xs) P h xs (All-contains_itself xs)

All-front : {X : Type 0} (P : X → Type 0) (xs ys : List X) → All P (xs ++ ys) → All P xs
All-front P xs ys all = each_of P xs (λ x among. All-contains P (xs ++ ys) x all (Contains-append_left xs ys x among))

pub within_none : (first : Kept) (granule : ℕ) → first.granule ≤ granule → IsLastWithin first [] granule first
unfolding era_in
within_none first granule from = record { from = from; known = inl refl; rules = λ tile begun none. refl }

pub within_next : (first : Kept) (later : List Kept) (granule : ℕ) (found next : Kept) → IsLastWithin first later granule found → IsLastWithin first (later ++ next ∷ []) granule (cond (nat_le next.granule granule) next found)
within_next first later granule found next is =
    let split : map as_era (later ++ next ∷ []) ≡ map as_era later ++ as_era next ∷ [] = map-append as_era later (next ∷ []) in
    let more : (tile : ℕ) → era_in (as_era first) (map as_era (later ++ next ∷ [])) tile ≡ cond (nat_le next.tile tile) (as_era next) (era_in (as_era first) (map as_era later) tile) =
    λ tile. ap (λ (es : List Era). era_in (as_era first) es tile) split ∙ pushed (as_era first) (map as_era later) (as_era next) tile in
    elim (cases_Bool (nat_le next.granule granule)) [
      | inl reached ↦ rw reached (record {
        from = grind (arith, nat_tests, reached);
        known = inr (Contains-append_right later (next ∷ []) next (here next []));
        rules = λ tile begun none. (let test : nat_le next.tile tile ≡ true = grind (arith, nat_tests, begun) in more tile ∙ ap (λ (b : Bool). cond b (as_era next) (era_in (as_era first) (map as_era later) tile)) test);
      })
      | inr not_yet ↦ rw not_yet (record {
        from = is.from;
        known = elim is.known [ inl own ↦ inl own | inr among ↦ inr (Contains-append_left later (next ∷ []) found among) ];
        rules = λ tile begun none.
            let past : granule < next.granule = grind (arith, nat_tests, not_yet) in
            let high : tile < next.tile = All-contains (λ (e : Kept). granule < e.granule → tile < e.tile) (later ++ next ∷ []) next none (Contains-append_right later (next ∷ []) next (here next [])) past in
            let test : nat_le next.tile tile ≡ false = grind (arith, nat_tests, high) in
            more tile ∙ ap (λ (b : Bool). cond b (as_era next) (era_in (as_era first) (map as_era later) tile)) test
            ∙ is.rules tile begun (All-front (λ (e : Kept). granule < e.granule → tile < e.tile) later (next ∷ []) none);
      })
    ]

module _ (first : Kept) (later : List Kept) (granule : ℕ) (e : Kept) (are : AreEras first later) (is : IsLastWithin first later granule e) where
  own_place : IsPlaced (policy first later) e
  own_place = elim is.known [
    | inl own ↦ subst (IsPlaced (policy first later)) (sym own) are.head
    | inr among ↦ All-contains (IsPlaced (policy first later)) later e are.each among
  ]

  pub within_small : e.k ≤ 10
  within_small = own_place.1

  formula_to : (d : ℕ) → ((tile : ℕ) → e.tile ≤ tile → tile < e.tile + d → era_in (as_era first) (map as_era later) tile ≡ as_era e) → first_granule (layout_by (policy first later)) (e.tile + d) ≡ e.granule + d * 2 ^ e.k
  unfolding exponent
  formula_to d own = within_era (layout_by (policy first later)) e.tile d e.k (λ t low high. ap (λ (x : Era). x.k) (own t low high)) ∙ ap (λ (g : ℕ). g + d * 2 ^ e.k) (sym own_place.0)

  -- a tile that begins within the granule goes by the era, where those before it do
  step : (tile : ℕ) → e.tile ≤ tile → (tile - e.tile) * 2 ^ e.k ≤ granule - e.granule
      → ((u : ℕ) → e.tile ≤ u → u < tile → era_in (as_era first) (map as_era later) u ≡ as_era e) → era_in (as_era first) (map as_era later) tile ≡ as_era e
  step tile begun within before = is.rules tile begun (each_of (λ (x : Kept). granule < x.granule → tile < x.tile) later (λ x among past. elim (cases_lt tile x.tile) [
    | inl low ↦ low
    | inr reached ↦ absurd
        (let place = (All-contains (IsPlaced (policy first later)) later x are.each among).0 in
        let own = own_place.0 in
        let from = is.from in
        elim (cases_lt e.tile x.tile) [
          | inl behind ↦
              (let parts : e.tile + (x.tile - e.tile) ≡ x.tile = omega (arith, behind) in
              let formula : first_granule (layout_by (policy first later)) x.tile ≡ e.granule + (x.tile - e.tile) * 2 ^ e.k =
              subst (λ (t : ℕ). first_granule (layout_by (policy first later)) t ≡ e.granule + (x.tile - e.tile) * 2 ^ e.k) parts
              (formula_to (x.tile - e.tile) (λ u low high. before u low (omega (arith, high, parts, reached)))) in
              let less : (x.tile - e.tile) * 2 ^ e.k ≤ (tile - e.tile) * 2 ^ e.k = mul-le (x.tile - e.tile) (2 ^ e.k) (tile - e.tile) (2 ^ e.k) (omega (arith, reached)) (omega arith) in
              omega (arith, past, place, formula, less, within, from))
          | inr early ↦ (let up = layouts.ascends (layout_by (policy first later)) x.tile e.tile early in omega (arith, past, place, own, from, up))
        ])
  ]))

  up_to : (d : ℕ) → d * 2 ^ e.k ≤ granule - e.granule → (tile : ℕ) → e.tile ≤ tile → tile - e.tile ≤ d → era_in (as_era first) (map as_era later) tile ≡ as_era e
  up_to zero within tile begun few =
      let none : tile - e.tile ≡ 0 = omega (arith, few) in
      step tile begun (rw none (omega arith)) (λ u low high. absurd (omega (arith, low, high, few, begun)))
  up_to (suc d) within tile begun few =
      let less : d * 2 ^ e.k ≤ granule - e.granule = omega (arith, within) in
      elim (cases_lt (tile - e.tile) (suc d)) [
        | inl low ↦ up_to d less tile begun (omega (arith, low))
        | inr high ↦
            (let last : tile - e.tile ≡ suc d = omega (arith, few, high) in
            step tile begun (rw last within) (λ u low above. up_to d less u low (omega (arith, low, above, few))))
      ]

  -- the granule's tile by its era
  pub tile_is : e.tile + (granule - e.granule) / 2 ^ e.k ≡ tile_of (layout_by (policy first later)) granule
  unfolding exponent
  tile_is =
      let from = is.from in
      let split = shr_split (granule - e.granule) e.k in
      let rest = mod_below (granule - e.granule) (2 ^ e.k) (pow_pos e.k) in
      let within : (granule - e.granule) / 2 ^ e.k * 2 ^ e.k ≤ granule - e.granule = omega (arith, split) in
      let begin = formula_to ((granule - e.granule) / 2 ^ e.k) (λ u low high. up_to ((granule - e.granule) / 2 ^ e.k) within u low (omega (arith, low, high))) in
      let own = up_to ((granule - e.granule) / 2 ^ e.k) within (e.tile + (granule - e.granule) / 2 ^ e.k) (omega arith) (omega arith) in
      let size : 2 ^ exponent (layout_by (policy first later)) (e.tile + (granule - e.granule) / 2 ^ e.k) ≡ 2 ^ e.k = ap (λ (x : Era). 2 ^ x.k) own in
      sym (layouts.only_tile (layout_by (policy first later)) (e.tile + (granule - e.granule) / 2 ^ e.k) granule (omega (arith, begin, within, from)) (omega (arith, begin, size, split, rest, from)))

-- ---- where the first era and a granule's tile lie

pub head_begins : (first : Kept) (later : List Kept) → AreEras first later → first.granule ≡ 0
head_begins first later are = are.head.0 ∙ ap (first_granule (layout_by (policy first later))) are.begins ∙ layouts.begins (layout_by (policy first later))

pub tile_at_most : (l : Layout) (g : ℕ) → tile_of l g ≤ g
tile_at_most l g = (let from = layouts.tile_begins l g in let few = layouts.counts l (tile_of l g) in omega (arith, from, few))

-- the number of a tile's era is that of those begun
pub count_is : (first : Kept) (later : List Kept) (tile : ℕ) → AreEras first later → length (filter (is_below (tile + 1)) (map as_era later)) ≡ era_of (layout_by (policy first later)) tile
unfolding era_of
count_is first later tile are =
    let next : tile + 1 ≡ suc tile = omega arith in
    ap (λ (n : ℕ). length (filter (is_below n) (map as_era later))) next ∙ sym (ap (length {A = Era}) (sealed_of (policy first later) (suc tile) are.ascend))

pub get_mapped : (xs : List Kept) (i : ℕ) → option_map as_era (slice_get xs i) ≡ slice_get (map as_era xs) i
get_mapped [] i = refl
get_mapped (x ∷ xs) zero = refl
get_mapped (x ∷ xs) (suc i) = get_mapped xs i

-- what holds of each one that an option may be
pub some_of : (o : Option Kept) (P : Kept → Type 0) → ((e : Kept) → o ≡ Some e → P e) → IfSome o P
some_of (Some e) P h = h e refl
some_of None P h = tt

pub placed_at : (first : Kept) (later : List Kept) (i : ℕ) (e : Kept) → AreEras first later → slice_get later i ≡ Some e → e.granule ≡ first_granule (layout_by (policy first later)) e.tile
placed_at first later i e are is = by later i are.each is
  where
    by : (xs : List Kept) (j : ℕ) → All (IsPlaced (policy first later)) xs → slice_get xs j ≡ Some e → e.granule ≡ first_granule (layout_by (policy first later)) e.tile
    by [] j all got = absurd cc
    by (x ∷ xs) zero all got = (let same : x ≡ e = cc in subst (λ (y : Kept). y.granule ≡ first_granule (layout_by (policy first later)) y.tile) same (All-head (IsPlaced (policy first later)) x xs all).0)
    by (x ∷ xs) (suc j) all got = by xs j (All-tail (IsPlaced (policy first later)) x xs all) got

-- ---- the next era

pub next_by : (first : Kept) (later : List Kept) (tile granule : ℕ) (era : Era) → era.tile ≡ tile
    → (nat_lt (length later) 255 && nat_le (last_tile (as_era first) (map as_era later)) tile && (granule == first_granule (layout_by (policy first later)) tile)) ≡ is_next (policy first later) era granule
unfolding is_next
next_by first later tile granule era here =
    let long : length (map as_era later) ≡ length later = length-map later as_era in
    rw (long, here) refl

below_last : (e : Era) (es : List Era) → Ascends e.tile es → (e.tile ≤ last_tile e es) × All (λ x. x.tile ≤ last_tile e es) es
unfolding last_tile
below_last e [] up = (omega arith, All-nil (λ x. x.tile ≤ e.tile))
below_last e (next ∷ es) up =
    let rest = below_last next es up.1 in
    let place = up.0 in
    let low = rest.0 in
    (omega (arith, place, low), All-cons (λ x. x.tile ≤ last_tile next es) next es low rest.1)

pub eras_begin : (first : Kept) → first.tile ≡ 0 → first.granule ≡ 0 → first.k ≤ 10 → AreEras first []
eras_begin first tile granule small = record {
  begins = tile;
  head = (granule ∙ sym (ap (first_granule (layout_by (policy first []))) tile ∙ layouts.begins (layout_by (policy first []))), small);
  each = All-nil (IsPlaced (policy first []));
  ascend = tt;
  few = omega arith;
}

pub policy_pushed : (first : Kept) (later : List Kept) (e : Kept) → policy first (later ++ e ∷ []) ≡ record { first = as_era first; later = map as_era later ++ as_era e ∷ [] }
policy_pushed first later e = ap (λ (es : List Era). record { first = as_era first; later = es }) (map-append as_era later (e ∷ []))

pub eras_pushed : (first : Kept) (later : List Kept) (e : Kept) → AreEras first later → is_next (policy first later) (as_era e) e.granule ≡ true → e.k ≤ 10 → AreEras first (later ++ e ∷ [])
eras_pushed first later e are next small =
    let facts = next_is (policy first later) (as_era e) e.granule next in
    let few : length (map as_era later) < 255 = facts.0 in
    let behind : last_tile (as_era first) (map as_era later) ≤ e.tile = facts.1 in
    let own : e.granule ≡ first_granule (layout_by (policy first later)) e.tile = facts.2 in
    let pushed_policy = policy_pushed first later e in
    let same : SameTiles e.tile (layout_by (policy first later)) (layout_by (policy first (later ++ e ∷ []))) =
    subst (λ (q : Policy). SameTiles e.tile (layout_by (policy first later)) (layout_by q)) (sym pushed_policy) (later_era (policy first later) (as_era e) e.tile (omega arith)) in
    let below = below_last (as_era first) (map as_era later) are.ascend in
    let moved : (x : Kept) → x.tile ≤ e.tile → IsPlaced (policy first later) x → IsPlaced (policy first (later ++ e ∷ [])) x =
    λ x low place. (place.0 ∙ layouts.same_first (layout_by (policy first later)) (layout_by (policy first (later ++ e ∷ []))) e.tile x.tile low same, place.1) in
    let long = length-append later (e ∷ []) in
    let mapped : length (map as_era later) ≡ length later = length-map later as_era in
    record {
      begins = are.begins;
      head = moved first (let low = below.0 in omega (arith, low, behind)) are.head;
      each = All-append (IsPlaced (policy first (later ++ e ∷ []))) later (e ∷ [])
          (each_of (IsPlaced (policy first (later ++ e ∷ []))) later (λ x among.
          let low : x.tile ≤ last_tile (as_era first) (map as_era later) = All-contains (λ y. y.tile ≤ last_tile (as_era first) (map as_era later)) (map as_era later) (as_era x) below.1 (Contains-map as_era later x among) in
          moved x (omega (arith, low, behind)) (All-contains (IsPlaced (policy first later)) later x are.each among)))
          (All-cons (IsPlaced (policy first (later ++ e ∷ []))) e [] (moved e (omega arith) (own, small)) (All-nil (IsPlaced (policy first (later ++ e ∷ [])))));
      ascend = subst (λ (es : List Era). Ascends first.tile es) (sym (map-append as_era later (e ∷ []))) (ascends_pushed (as_era first) (map as_era later) (as_era e) are.ascend behind);
      few = omega (arith, few, long, mapped);
    }

-- ---- the last one

pub last_pushed : (first : Era) (later : List Era) (e : Era) → last_tile first (later ++ e ∷ []) ≡ e.tile
unfolding last_tile
last_pushed first [] e = refl
last_pushed first (next ∷ later) e = last_pushed next later e

-- ---- where the first era is the only one

pub alone_first : (first : Kept) (later : List Kept) (tile : ℕ) → AreEras first later → true ≡ (length later == 0)
    → tile * 2 ^ first.k ≡ first_granule (layout_by (policy first later)) tile
alone_first first [] tile are alone =
    let begin = are.begins in
    let place = head_begins first [] are in
    let formula = first_is first [] tile first are (last_of_none first tile (omega (arith, begin))) in
    let behind : tile - first.tile ≡ tile = omega (arith, begin) in
    let own : (tile - first.tile) * 2 ^ first.k ≡ tile * 2 ^ first.k = ap (λ (n : ℕ). n * 2 ^ first.k) behind in
    omega (arith, formula, own, place)
alone_first first (x ∷ later) tile are alone = absurd (let some : (length (x ∷ later) == 0) ≡ false = grind (arith, nat_tests) in cc)

pub alone_tile : (first : Kept) (later : List Kept) (granule : ℕ) → AreEras first later → true ≡ (length later == 0)
    → granule / 2 ^ first.k ≡ tile_of (layout_by (policy first later)) granule
alone_tile first [] granule are alone =
    let begin = are.begins in
    let place = head_begins first [] are in
    let formula = tile_is first [] granule first are (within_none first granule (omega (arith, place))) in
    let behind : granule - first.granule ≡ granule = omega (arith, place) in
    let own : (granule - first.granule) / 2 ^ first.k ≡ granule / 2 ^ first.k = ap (λ (n : ℕ). n / 2 ^ first.k) behind in
    omega (arith, formula, own, begin)
alone_tile first (x ∷ later) granule are alone = absurd (let some : (length (x ∷ later) == 0) ≡ false = grind (arith, nat_tests) in cc)

-- ---- two that are the same

-- an era in its place, again
abbrev kept_of : Policy → Era → Kept
kept_of p e = record { tile = e.tile; granule = first_granule (layout_by p) e.tile; k = e.k; algs = e.algs }

kept_again : (p : Policy) (e : Kept) → IsPlaced p e → kept_of p (as_era e) ≡ e
kept_again p e place = ap (λ (g : ℕ). record { tile = e.tile; granule = g; k = e.k; algs = e.algs }) (sym place.0)

all_again : (p : Policy) (es : List Kept) → All (IsPlaced p) es → map (kept_of p) (map as_era es) ≡ es
all_again p [] all = refl
all_again p (e ∷ es) all = ap (λ (x : Kept). x ∷ map (kept_of p) (map as_era es)) (kept_again p e (All-head (IsPlaced p) e es all)) ∙ ap (λ (xs : List Kept). e ∷ xs) (all_again p es (All-tail (IsPlaced p) e es all))

-- eras as code keeps them are decided by what they are
pub kept_are : (first other : Kept) (later others : List Kept) → AreEras first later → AreEras other others → policy first later ≡ policy other others
    → (first ≡ other) × (later ≡ others)
kept_are first other later others are also one = (
  sym (kept_again (policy first later) first are.head) ∙ ap (λ (p : Policy). kept_of p p.first) one ∙ kept_again (policy other others) other also.head,
  sym (all_again (policy first later) later are.each) ∙ ap (λ (p : Policy). map (kept_of p) p.later) one ∙ all_again (policy other others) others also.each,
)

-- the test of two eras field by field
pub one_era : (a b : Kept) → Decides (nat_eq a.tile b.tile && (nat_eq a.granule b.granule && (nat_eq a.k b.k && nat_eq a.algs b.algs))) (a ≡ b)
one_era a b = (
  (λ e.
      let first = and_parts (nat_eq a.tile b.tile) (nat_eq a.granule b.granule && (nat_eq a.k b.k && nat_eq a.algs b.algs)) e in
      let second = and_parts (nat_eq a.granule b.granule) (nat_eq a.k b.k && nat_eq a.algs b.algs) first.1 in
      let third = and_parts (nat_eq a.k b.k) (nat_eq a.algs b.algs) second.1 in
      let tile = eqb-true a.tile b.tile first.0 in
      let granule = eqb-true a.granule b.granule second.0 in
      let k = eqb-true a.k b.k third.0 in
      let algs = eqb-true a.algs b.algs third.1 in
      ap (λ (n : ℕ). record { tile = n; granule = a.granule; k = a.k; algs = a.algs }) tile
      ∙ ap (λ (n : ℕ). record { tile = b.tile; granule = n; k = a.k; algs = a.algs }) granule
      ∙ ap (λ (n : ℕ). record { tile = b.tile; granule = b.granule; k = n; algs = a.algs }) k
      ∙ ap (λ (n : ℕ). record { tile = b.tile; granule = b.granule; k = b.k; algs = n }) algs),
  (λ e. and_from (nat_eq a.tile b.tile) (nat_eq a.granule b.granule && (nat_eq a.k b.k && nat_eq a.algs b.algs)) (eq-eqb a.tile b.tile (ap (λ (x : Kept). x.tile) e))
      (and_from (nat_eq a.granule b.granule) (nat_eq a.k b.k && nat_eq a.algs b.algs) (eq-eqb a.granule b.granule (ap (λ (x : Kept). x.granule) e))
      (and_from (nat_eq a.k b.k) (nat_eq a.algs b.algs) (eq-eqb a.k b.k (ap (λ (x : Kept). x.k) e)) (eq-eqb a.algs b.algs (ap (λ (x : Kept). x.algs) e))))),
)

-- The eras of a history: they ascend, so that the eras of the first n tiles come first; and each has a spelling.
use Rattle.std.proofs.Common.{◌≡◌, ℕ, zero, suc, ◌+◌, ◌-◌, ◌*◌, ◌^◌, ◌<◌, ◌≤◌, nat_le, nat_lt, Bool, true, false, cond, List, [], ◌∷◌, ◌++◌, length, filter, fold, Some, refl, sym, ap, subst, ◌∙◌, inl, inr, append-nil, arith}
use Rattle.std.specs.Prelude.{◌&&◌, ◌==◌, nat_eq}
use Rattle.std.specs.Int.{bit_at}
use Rattle.std.specs.List.{All, slice_get}
use Rattle.std.proofs.lemmas.Bool.{cases_Bool, cases_lt, cases_eq}
use Rattle.std.proofs.lemmas.Bool.Decides.{nat_tests}
use Rattle.std.proofs.lemmas.List.{length-append}
use Rattle.std.proofs.lemmas.List.Elements.{All-nil, All-cons, All-head, All-tail, All-append, filter_passes}
use Rattle.tuple_bytes.specs.declared.header.Header.{Header}
use Rattle.tuple_bytes.specs.declared.item.Item.{Item}
use Rattle.tuple_bytes.specs.declared.item.Item.TheVariants as items
use Rattle.tuple_bytes.specs.Spelling.{FitsItem}
use Rattle.history_model.specs.History.{History}
use Rattle.digest_model.specs.Layout.{Layout, Era, Policy, SameTiles, exponent, first_granule, has_tile_chains, has_tree, era_in, begins_at, layout_by, last_tile, is_next, with_item, first_era, policy_of, era_at, layout, turns, sealed_eras, era_of, is_none, era_start, leaf_start}
use Rattle.digest_model.specs.Digests.{era_input, digest_of_era, era_digest, granule_of_era, era_granule}
use Rattle.sha2.specs.Sha256.{sha256}
use Rattle.digest_model.specs.Eras.{Ascends, is_below, SealedErasComeFirst, EqualErasHaveEqualTiles, TilesOfAnEraAreEven}
use Rattle.digest_model.specs.Laws.{HasSpelling}
use Rattle.std.proofs.Math.Pow.{pow_mono}
use Rattle.digest_model.proofs.Layouts as layouts

-- ---- what each change keeps

three : (a b c : Bool) → (a && b && c) ≡ true → (a ≡ true) × (b ≡ true) × (c ≡ true)
three true true true e = (refl, refl, refl)
three true true false e = absurd cc
three true false c e = absurd cc
three false b c e = absurd cc

-- a next era begins at the tile of the last one or behind it, at the granule of its tile, and there are fewer than 256 so far
pub next_is : (p : Policy) (e : Era) (granule : ℕ) → is_next p e granule ≡ true → (length p.later < 255) × (last_tile p.first p.later ≤ e.tile) × (granule ≡ first_granule (layout_by p) e.tile)
unfolding is_next
next_is p e granule is =
    let r = three (nat_lt (length p.later) 255) (nat_le (last_tile p.first p.later) e.tile) (granule == first_granule (layout_by p) e.tile) is in
    let few = r.0 in
    let behind = r.1 in
    let place = r.2 in
    (grind (arith, nat_tests, few), grind (arith, nat_tests, behind), grind (arith, nat_tests, place))

-- what a next era keeps is kept by all items
module _ (P : Policy → Type 0) (F : Item → Type 0) (keeps : (p : Policy) (tile granule k algs : ℕ) → P p → F (items.Policy tile granule k algs) → is_next p (record { tile = tile; k = k; algs = algs }) granule ≡ true → P (record { first = p.first; later = p.later ++ record { tile = tile; k = k; algs = algs } ∷ [] })) where
  kept_by : (p : Policy) (item : Item) → P p → F item → P (with_item p item)
  kept_by p (items.Txn t) is fits = is
  kept_by p (items.Frontier moment) is fits = is
  kept_by p (items.Policy tile granule k algs) is fits = elim (cases_Bool (is_next p (record { tile = tile; k = k; algs = algs }) granule)) [
    | inl next ↦ rw next (keeps p tile granule k algs is fits next)
    | inr other ↦ rw other is
  ]

  kept : (p : Policy) (all : List Item) → P p → All F all → P (fold with_item p all)
  kept p [] is fits = is
  kept p (item ∷ all) is fits = kept (with_item p item) all (kept_by p item is (All-head F item all fits)) (All-tail F item all fits)

anything : (all : List Item) → All (λ (i : Item). Unit {0}) all
anything [] = All-nil (λ (i : Item). Unit {0})
anything (i ∷ all) = All-cons (λ (i : Item). Unit {0}) i all tt (anything all)

-- ---- the first one

abbrev IsFirst : Era → Policy → Type 0
IsFirst e p = p.first ≡ e

pub first_is : (h : History) → (policy_of h).first ≡ record { tile = 0; k = h.header.k; algs = h.header.algs }
unfolding policy_of
first_is h = kept (IsFirst (first_era h.header).first) (λ (i : Item). Unit {0}) (λ p tile granule k algs is fits next. is) (first_era h.header) h.items refl (anything h.items)

-- ---- they have spellings

abbrev pub FitsEra : Era → Type 0
FitsEra e = (e.tile < 2 ^ 32) × (e.k ≤ 10) × (e.algs ≤ 3)

abbrev FitPolicy : Policy → Type 0
FitPolicy p = FitsEra p.first × All FitsEra p.later

pub eras_fit : (h : History) → HasSpelling h → FitsEra (policy_of h).first × All FitsEra (policy_of h).later
unfolding policy_of
eras_fit h fits = kept FitPolicy FitsItem
    (λ p tile granule k algs is item next. (is.0, All-append FitsEra p.later (record { tile = tile; k = k; algs = algs } ∷ []) is.1 (All-cons FitsEra (record { tile = tile; k = k; algs = algs }) [] (item.0, item.2, item.3) (All-nil FitsEra))))
    (first_era h.header) h.items ((omega arith, fits.header.k, fits.header.algs), All-nil FitsEra) fits.items

era_fits : (e : Era) (later : List Era) (tile : ℕ) → FitsEra e → All FitsEra later → FitsEra (era_in e later tile)
unfolding era_in
era_fits e [] tile fits all = fits
era_fits e (next ∷ later) tile fits all = elim (cases_Bool (nat_le next.tile tile)) [
  | inl reached ↦ subst (λ (b : Bool). FitsEra (era_in (cond b next e) later tile)) (sym reached) (era_fits next later tile (All-head FitsEra next later all) (All-tail FitsEra next later all))
  | inr not_yet ↦ subst (λ (b : Bool). FitsEra (era_in (cond b next e) later tile)) (sym not_yet) (era_fits e later tile fits (All-tail FitsEra next later all))
]

pub exponents_fit : (h : History) (tile : ℕ) → HasSpelling h → exponent (layout h) tile ≤ 10
unfolding exponent layout
exponents_fit h tile fits = (let all = eras_fit h fits in (era_fits (policy_of h).first (policy_of h).later tile all.0 all.1).1)

all_at : (es : List Era) (e : ℕ) (era : Era) → All FitsEra es → slice_get es e ≡ Some era → FitsEra era
all_at [] e era all is = absurd cc
all_at (x ∷ es) zero era all is = (let same : x ≡ era = cc in subst FitsEra same (All-head FitsEra x es all))
all_at (x ∷ es) (suc e) era all is = all_at es e era (All-tail FitsEra x es all) is

pub era_at_fits : (h : History) (number : ℕ) (era : Era) → HasSpelling h → era_at (policy_of h) number ≡ Some era → FitsEra era
era_at_fits h zero era fits is = (let same : (policy_of h).first ≡ era = cc in subst FitsEra same (eras_fit h fits).0)
era_at_fits h (suc e) era fits is = all_at (policy_of h).later e era (eras_fit h fits).1 is

-- ---- they ascend

pub ascends_pushed : (e : Era) (es : List Era) (x : Era) → Ascends e.tile es → last_tile e es ≤ x.tile → Ascends e.tile (es ++ x ∷ [])
unfolding last_tile
ascends_pushed e [] x up behind = (behind, tt)
ascends_pushed e (y ∷ es) x up behind = (up.0, ascends_pushed y es x up.1 behind)

pub eras_ascend : (h : History) → Ascends (policy_of h).first.tile (policy_of h).later
unfolding policy_of
eras_ascend h = kept (λ (p : Policy). Ascends p.first.tile p.later) (λ (i : Item). Unit {0})
    (λ p tile granule k algs is fits next. ascends_pushed p.first p.later (record { tile = tile; k = k; algs = algs }) is (next_is p (record { tile = tile; k = k; algs = algs }) granule next).1)
    (first_era h.header) h.items tt (anything h.items)

-- ---- those of the first n tiles come first

none_below : (from n : ℕ) (es : List Era) → n ≤ from → Ascends from es → filter (is_below n) es ≡ []
none_below from n [] above up = refl
none_below from n (e ∷ es) above up =
    let place = up.0 in
    let other : is_below n e ≡ false = grind (arith, nat_tests, above, place) in
    let rest = none_below e.tile n es (omega (arith, above, place)) up.1 in
    rw other rest

none_at : (from n : ℕ) (es : List Era) → n < from → Ascends from es → filter (begins_at n) es ≡ []
none_at from n [] above up = refl
none_at from n (e ∷ es) above up =
    let place = up.0 in
    let other : begins_at n e ≡ false = grind (arith, nat_tests, above, place) in
    let rest = none_at e.tile n es (omega (arith, above, place)) up.1 in
    rw other rest

one_tile_more : (from n : ℕ) (es : List Era) → Ascends from es → filter (is_below (suc n)) es ≡ filter (is_below n) es ++ filter (begins_at n) es
one_tile_more from n [] up = refl
one_tile_more from n (e ∷ es) up = elim (cases_lt e.tile n) [
  | inl low ↦
      (let a : is_below (suc n) e ≡ true = grind (arith, nat_tests, low) in
      let b : is_below n e ≡ true = grind (arith, nat_tests, low) in
      let c : begins_at n e ≡ false = grind (arith, nat_tests, low) in
      rw (a, b, c) (ap (λ (xs : List Era). e ∷ xs) (one_tile_more e.tile n es up.1)))
  | inr high ↦ elim (cases_eq e.tile n) [
    | inl here ↦
        (let a : is_below (suc n) e ≡ true = grind (arith, nat_tests, here) in
        let b : is_below n e ≡ false = grind (arith, nat_tests, here) in
        let c : begins_at n e ≡ true = grind (arith, nat_tests, here) in
        let none = none_below e.tile n es (omega (arith, high)) up.1 in
        rw (a, b, c, none) (ap (λ (xs : List Era). e ∷ xs) (one_tile_more e.tile n es up.1 ∙ ap (λ (xs : List Era). xs ++ filter (begins_at n) es) none)))
    | inr other ↦
        (let a : is_below (suc n) e ≡ false = grind (arith, nat_tests, high, other) in
        let b : is_below n e ≡ false = grind (arith, nat_tests, high) in
        let c : begins_at n e ≡ false = grind (arith, nat_tests, high, other) in
        let low = none_below e.tile (suc n) es (omega (arith, high, other)) up.1 in
        let none = none_below e.tile n es (omega (arith, high)) up.1 in
        let gone = none_at e.tile n es (omega (arith, high, other)) up.1 in
        rw (a, b, c, low, none, gone) refl)
  ]
]

-- the eras of the first n tiles are those that begin at these
pub sealed_of : (p : Policy) (n : ℕ) → Ascends p.first.tile p.later → sealed_eras (layout_by p) n ≡ filter (is_below n) p.later
unfolding sealed_eras turns
sealed_of p zero up = sym (none_below p.first.tile 0 p.later (omega arith) up)
sealed_of p (suc n) up = ap (λ (es : List Era). es ++ filter (begins_at n) p.later) (sealed_of p n up) ∙ sym (one_tile_more p.first.tile n p.later up)

pub sealed_are : (h : History) (n : ℕ) → sealed_eras (layout h) n ≡ filter (is_below n) (policy_of h).later
unfolding layout
sealed_are h n = sealed_of (policy_of h) n (eras_ascend h)

front_of : (from n : ℕ) (es : List Era) → Ascends from es → (rest : List Era) × (es ≡ filter (is_below n) es ++ rest)
front_of from n [] up = ([], refl)
front_of from n (e ∷ es) up = elim (cases_lt e.tile n) [
  | inl low ↦
      (let a : is_below n e ≡ true = grind (arith, nat_tests, low) in
      let r = front_of e.tile n es up.1 in
      (r.0, rw a (ap (λ (xs : List Era). e ∷ xs) r.1)))
  | inr high ↦
      (let a : is_below n e ≡ false = grind (arith, nat_tests, high) in
      let none = none_below e.tile n es (omega (arith, high)) up.1 in
      (e ∷ es, rw (a, none) refl))
]

-- and they come first
pub sealed_come_first : (h : History) (n : ℕ) → (rest : List Era) × ((policy_of h).later ≡ sealed_eras (layout h) n ++ rest)
sealed_come_first h n =
    let r = front_of (policy_of h).first.tile n (policy_of h).later (eras_ascend h) in
    (r.0, r.1 ∙ ap (λ (es : List Era). es ++ r.0) (sym (sealed_are h n)))

get_front : (xs ys : List Era) (i : ℕ) → i < length xs → slice_get (xs ++ ys) i ≡ slice_get xs i
get_front [] ys i below = absurd (omega (arith, below))
get_front (x ∷ xs) ys zero below = refl
get_front (x ∷ xs) ys (suc i) below = get_front xs ys i (omega (arith, below))

-- the era of a number, from 1 on, among those of the first n tiles
pub sealed_at : (h : History) (n e : ℕ) → e < length (sealed_eras (layout h) n) → era_at (policy_of h) (suc e) ≡ slice_get (sealed_eras (layout h) n) e
sealed_at h n e below =
    let r = sealed_come_first h n in
    ap (λ (es : List Era). slice_get es e) r.1 ∙ get_front (sealed_eras (layout h) n) r.0 e below

pub get_within : (es : List Era) (e : ℕ) → e < length es → (era : Era) × (slice_get es e ≡ Some era)
get_within [] e below = absurd (omega (arith, below))
get_within (x ∷ es) zero below = (x, refl)
get_within (x ∷ es) (suc e) below = get_within es e (omega (arith, below))

passes_at : (p : Era → Bool) (es : List Era) (e : ℕ) (era : Era) → slice_get (filter p es) e ≡ Some era → p era ≡ true
passes_at p es e era is = by (filter p es) e (filter_passes p es) is
  where
    by : (xs : List Era) (i : ℕ) → All (λ x. p x ≡ true) xs → slice_get xs i ≡ Some era → p era ≡ true
    by [] i all got = absurd cc
    by (x ∷ xs) zero all got = (let same : x ≡ era = cc in subst (λ (y : Era). p y ≡ true) same (All-head (λ y. p y ≡ true) x xs all))
    by (x ∷ xs) (suc i) all got = by xs i (All-tail (λ y. p y ≡ true) x xs all) got

-- its tile is one of these
pub sealed_below : (h : History) (n e : ℕ) (era : Era) → e < length (sealed_eras (layout h) n) → era_at (policy_of h) (suc e) ≡ Some era → era.tile < n
sealed_below h n e era below is =
    let got : slice_get (filter (is_below n) (policy_of h).later) e ≡ Some era = ap (λ (es : List Era). slice_get es e) (sym (sealed_are h n)) ∙ sym (sealed_at h n e below) ∙ is in
    let passes = passes_at (is_below n) (policy_of h).later e era got in
    grind (arith, nat_tests, passes)

-- ---- two histories with the same eras of their first tiles

module _ (h s : History) where
  pub same_era : (n e : ℕ) → SameTiles n (layout h) (layout s) → e < length (sealed_eras (layout h) n) → era_at (policy_of h) (suc e) ≡ era_at (policy_of s) (suc e)
  same_era n e same below =
      let eras = layouts.same_eras (layout h) (layout s) n same in
      sealed_at h n e below ∙ ap (λ (es : List Era). slice_get es e) eras ∙ sym (sealed_at s n e (subst (λ (es : List Era). e < length es) eras below))

  pub same_granule : (n e : ℕ) → SameTiles n (layout h) (layout s) → e < length (sealed_eras (layout h) n) → era_granule h (suc e) ≡ era_granule s (suc e)
  unfolding era_granule
  same_granule n e same below =
      let got = get_within (sealed_eras (layout h) n) e below in
      let is : era_at (policy_of h) (suc e) ≡ Some got.0 = sealed_at h n e below ∙ got.1 in
      let low = sealed_below h n e got.0 below is in
      let place = layouts.same_first (layout h) (layout s) n got.0.tile (omega (arith, low)) same in
      ap (granule_of_era h) is ∙ place ∙ ap (granule_of_era s) (sym is ∙ same_era n e same below)

  pub same_era_digest : (n e : ℕ) → SameTiles n (layout h) (layout s) → e < length (sealed_eras (layout h) n) → era_digest h (suc e) ≡ era_digest s (suc e)
  unfolding era_digest
  same_era_digest n e same below =
      let got = get_within (sealed_eras (layout h) n) e below in
      let is : era_at (policy_of h) (suc e) ≡ Some got.0 = sealed_at h n e below ∙ got.1 in
      let low = sealed_below h n e got.0 below is in
      let place = layouts.same_first (layout h) (layout s) n got.0.tile (omega (arith, low)) same in
      ap (digest_of_era h (suc e)) is ∙ ap (λ (g : ℕ). sha256 (era_input (suc e) got.0 g)) place ∙ ap (digest_of_era s (suc e)) (sym is ∙ same_era n e same below)

-- ---- equal eras leave equal tiles

era_below : (e : Era) (later : List Era) (n tile : ℕ) → tile < n → era_in e later tile ≡ era_in e (filter (is_below n) later) tile
unfolding era_in
era_below e [] n tile below = refl
era_below e (next ∷ later) n tile below = elim (cases_lt next.tile n) [
  | inl low ↦ (let a : is_below n next ≡ true = grind (arith, nat_tests, low) in rw a (era_below (cond (nat_le next.tile tile) next e) later n tile below))
  | inr high ↦
      (let a : is_below n next ≡ false = grind (arith, nat_tests, high) in
      let b : nat_le next.tile tile ≡ false = grind (arith, nat_tests, high, below) in
      rw (a, b) (era_below e later n tile below))
]

begun_below : (later : List Era) (n tile : ℕ) → tile < n → filter (begins_at tile) later ≡ filter (begins_at tile) (filter (is_below n) later)
begun_below [] n tile below = refl
begun_below (next ∷ later) n tile below = elim (cases_lt next.tile n) [
  | inl low ↦
      (let a : is_below n next ≡ true = grind (arith, nat_tests, low) in
      rw a (ap (λ (es : List Era). cond (begins_at tile next) (next ∷ es) es) (begun_below later n tile below)))
  | inr high ↦
      (let a : is_below n next ≡ false = grind (arith, nat_tests, high) in
      let b : begins_at tile next ≡ false = grind (arith, nat_tests, high, below) in
      rw (a, b) (begun_below later n tile below))
]

pub equal_eras : (h s : History) (n : ℕ) → h.header.k ≡ s.header.k → h.header.algs ≡ s.header.algs → sealed_eras (layout h) n ≡ sealed_eras (layout s) n → SameTiles n (layout h) (layout s)
unfolding layout
equal_eras h s n one_k one_algs eras tile below =
    let fewer : filter (is_below n) (policy_of h).later ≡ filter (is_below n) (policy_of s).later = sym (sealed_are h n) ∙ eras ∙ sealed_are s n in
    let first : (policy_of h).first ≡ (policy_of s).first = first_is h ∙ ap (λ (k : ℕ). record { tile = 0; k = k; algs = h.header.algs }) one_k ∙ ap (λ (algs : ℕ). record { tile = 0; k = s.header.k; algs = algs }) one_algs ∙ sym (first_is s) in
    let in_h = era_below (policy_of h).first (policy_of h).later n tile below in
    let in_s = era_below (policy_of s).first (policy_of s).later n tile below in
    let own : era_in (policy_of h).first (policy_of h).later tile ≡ era_in (policy_of s).first (policy_of s).later tile =
    in_h ∙ ap (λ (e : Era). era_in e (filter (is_below n) (policy_of h).later) tile) first ∙ ap (λ (es : List Era). era_in (policy_of s).first es tile) fewer ∙ sym in_s in
    record {
      exponent = ap (λ (e : Era). e.k) own;
      algorithms = ap (λ (e : Era). e.algs) own;
      begun = begun_below (policy_of h).later n tile below ∙ ap (filter (begins_at tile)) fewer ∙ sym (begun_below (policy_of s).later n tile below);
    }

-- ---- they are few

at_most : (p : Era → Bool) (es : List Era) → length (filter p es) ≤ length es
at_most p [] = omega arith
at_most p (e ∷ es) = (let rest = at_most p es in elim (cases_Bool (p e)) [ inl yes_it ↦ rw yes_it (omega (arith, rest)) | inr no_it ↦ rw no_it (omega (arith, rest)) ])

abbrev IsFew : Policy → Type 0
IsFew p = length p.later ≤ 255

pub eras_are_few : (h : History) → length (policy_of h).later ≤ 255
unfolding policy_of
eras_are_few h = kept IsFew (λ (i : Item). Unit {0})
    (λ p tile granule k algs is fits next. (let few = (next_is p (record { tile = tile; k = k; algs = algs }) granule next).0 in let long = length-append p.later (record { tile = tile; k = k; algs = algs } ∷ []) in omega (arith, few, long)))
    (first_era h.header) h.items (omega arith) (anything h.items)

-- the eras that begin at a tile are those of the history that do
pub turns_are : (h : History) (tile : ℕ) → turns (layout h) tile ≡ filter (begins_at tile) (policy_of h).later
unfolding turns layout
turns_are h tile = refl

pub turns_are_few : (h : History) (tile : ℕ) → length (turns (layout h) tile) ≤ 255
turns_are_few h tile = (let some = at_most (begins_at tile) (policy_of h).later in let few = eras_are_few h in rw (turns_are h tile) (omega (arith, some, few)))

-- ---- the era of a tile

turns_at : (h : History) (tile e : ℕ) (era : Era) → slice_get (turns (layout h) tile) e ≡ Some era → era.tile ≡ tile
unfolding turns layout
turns_at h tile e era is = (let passes = passes_at (begins_at tile) (policy_of h).later e era is in grind (arith, nat_tests, passes))

get_back : (xs ys : List Era) (i : ℕ) → slice_get (xs ++ ys) (length xs + i) ≡ slice_get ys i
get_back [] ys i = (let none : 0 + i ≡ i = omega arith in ap (slice_get ys) none)
get_back (x ∷ xs) ys i = (let place : length (x ∷ xs) + i ≡ suc (length xs + i) = omega arith in ap (slice_get (x ∷ xs ++ ys)) place ∙ get_back xs ys i)

-- the last of some eras and of those that begin at a further tile
last_of : (before begun : List Era) (start tile e : ℕ)
    → ((i : ℕ) → length before ≡ suc i → (era : Era) × (slice_get before i ≡ Some era) × (era.tile ≡ start))
    → ((i : ℕ) (era : Era) → slice_get begun i ≡ Some era → era.tile ≡ tile)
    → length (before ++ begun) ≡ suc e
    → (era : Era) × (slice_get (before ++ begun) e ≡ Some era) × (era.tile ≡ cond (is_none begun) start tile)
last_of before [] start tile e own here count =
    let none : before ++ [] ≡ before = append-nil before in
    let r = own e (rw none at count) in
    (r.0, rw none r.1, r.2)
last_of before (x ∷ xs) start tile e own here count =
    let long = length-append before (x ∷ xs) in
    let got = get_within (x ∷ xs) (length xs) (omega arith) in
    let place : length before + length xs ≡ e = omega (arith, long, count) in
    (got.0, subst (λ (i : ℕ). slice_get (before ++ x ∷ xs) i ≡ Some got.0) place (get_back before (x ∷ xs) (length xs) ∙ got.1), here (length xs) got.0 got.1)

-- the last of the eras up to a tile begins where the tile's era does
last_sealed : (h : History) (tile e : ℕ) → length (sealed_eras (layout h) (suc tile)) ≡ suc e
    → (era : Era) × (slice_get (sealed_eras (layout h) (suc tile)) e ≡ Some era) × (era.tile ≡ era_start (layout h) tile)
unfolding sealed_eras era_start
last_sealed h zero e count =
    let got = get_within (turns (layout h) 0) e (omega (arith, count)) in
    (got.0, got.1, turns_at h 0 e got.0 got.1)
last_sealed h (suc tile) e count =
    last_of (sealed_eras (layout h) (suc tile)) (turns (layout h) (suc tile)) (era_start (layout h) tile) (suc tile) e (last_sealed h tile) (turns_at h (suc tile)) count

-- the granule of a later era is that of its first tile
pub own_granule : (h : History) (tile e : ℕ) → era_of (layout h) tile ≡ suc e → era_granule h (suc e) ≡ first_granule (layout h) (era_start (layout h) tile)
unfolding era_of era_granule
own_granule h tile e count =
    let last = last_sealed h tile e count in
    let is : era_at (policy_of h) (suc e) ≡ Some last.0 = sealed_at h (suc tile) e (omega (arith, count)) ∙ last.1 in
    ap (granule_of_era h) is ∙ ap (first_granule (layout h)) last.2

-- the first era begins at granule 0
pub first_begins : (h : History) → era_granule h 0 ≡ 0
unfolding era_granule
first_begins h = ap (λ (e : Era). first_granule (layout h) e.tile) (first_is h) ∙ layouts.begins (layout h)

none_begun : (l : Layout) (tile : ℕ) → era_of l tile ≡ 0 → era_start l tile ≡ 0
unfolding era_of era_start sealed_eras
none_begun l zero none = refl
none_begun l (suc tile) none =
    let long = length-append (sealed_eras l (suc tile)) (turns l (suc tile)) in
    by (turns l (suc tile)) (omega (arith, long, none)) (none_begun l tile (omega (arith, long, none)))
  where
    by : (xs : List Era) → length xs ≡ 0 → era_start l tile ≡ 0 → cond (is_none xs) (era_start l tile) (suc tile) ≡ 0
    by [] few before = before
    by (x ∷ xs) few before = absurd (omega (arith, few))

-- the tree of a tile begins where its era does
pub tree_begins : (h : History) (tile : ℕ) → era_granule h (era_of (layout h) tile) ≡ first_granule (layout h) (era_start (layout h) tile)
tree_begins h tile = by (era_of (layout h) tile) refl
  where
    by : (e : ℕ) → era_of (layout h) tile ≡ e → era_granule h (era_of (layout h) tile) ≡ first_granule (layout h) (era_start (layout h) tile)
    by zero is = ap (era_granule h) is ∙ first_begins h ∙ sym (ap (first_granule (layout h)) (none_begun (layout h) tile is) ∙ layouts.begins (layout h))
    by (suc e) is = ap (era_granule h) is ∙ own_granule h tile e is

-- ---- within an era

pub era_on : (e : Era) (later : List Era) (tile : ℕ) → is_none (filter (begins_at (suc tile)) later) ≡ true → era_in e later (suc tile) ≡ era_in e later tile
unfolding era_in
era_on e [] tile none = refl
era_on e (next ∷ later) tile none = elim (cases_Bool (begins_at (suc tile) next)) [
  | inl here ↦ absurd (let some : is_none (cond (begins_at (suc tile) next) (next ∷ filter (begins_at (suc tile)) later) (filter (begins_at (suc tile)) later)) ≡ false = rw here refl in cc)
  | inr other ↦
      (let rest : is_none (filter (begins_at (suc tile)) later) ≡ true = rw other at none in
      let alike : nat_le next.tile (suc tile) ≡ nat_le next.tile tile = grind (arith, nat_tests, other) in
      rw alike (era_on (cond (nat_le next.tile tile) next e) later tile rest))
]

-- where no era begins, the exponent stays
pub exponent_on : (h : History) (tile : ℕ) → is_none (turns (layout h) (suc tile)) ≡ true → exponent (layout h) (suc tile) ≡ exponent (layout h) tile
unfolding exponent turns layout
exponent_on h tile none = ap (λ (e : Era). e.k) (era_on (policy_of h).first (policy_of h).later tile none)

-- so do the chains of parts, and whether there is a tree
pub chains_on : (h : History) (tile : ℕ) → is_none (turns (layout h) (suc tile)) ≡ true → has_tile_chains (layout h) (suc tile) ≡ has_tile_chains (layout h) tile
unfolding has_tile_chains turns layout
chains_on h tile none = ap (λ (e : Era). nat_eq (bit_at e.algs 0) 1) (era_on (policy_of h).first (policy_of h).later tile none)

pub tree_on : (h : History) (tile : ℕ) → is_none (turns (layout h) (suc tile)) ≡ true → has_tree (layout h) (suc tile) ≡ has_tree (layout h) tile
unfolding has_tree turns layout
tree_on h tile none = ap (λ (e : Era). nat_eq (bit_at e.algs 1) 1) (era_on (policy_of h).first (policy_of h).later tile none)

-- the granules of an era before a tile are as many as its tiles there have
pub leaf_is : (h : History) (tile : ℕ) → leaf_start (layout h) tile ≡ (tile - era_start (layout h) tile) * 2 ^ exponent (layout h) tile
unfolding leaf_start era_start
leaf_is h zero = omega arith
leaf_is h (suc tile) = elim (cases_Bool (is_none (turns (layout h) (suc tile)))) [
  | inl none ↦
      (let before = leaf_is h tile in
      let start = layouts.starts_before (layout h) tile in
      let power : 2 ^ exponent (layout h) (suc tile) ≡ 2 ^ exponent (layout h) tile = ap (λ (k : ℕ). 2 ^ k) (exponent_on h tile none) in
      let count : suc tile - era_start (layout h) tile ≡ (tile - era_start (layout h) tile) + 1 = omega (arith, start) in
      rw (none, count, power) (omega (arith, before)))
  | inr some ↦ (let none : suc tile - suc tile ≡ 0 = omega arith in rw (some, none) (omega arith))
]

pub even_in_era : TilesOfAnEraAreEven
even_in_era h tile = sym (layouts.leaves_before (layout h) tile) ∙ ap (λ (n : ℕ). first_granule (layout h) (era_start (layout h) tile) + n) (leaf_is h tile)

pub come_first : SealedErasComeFirst
come_first h n = (let r = sealed_come_first h n in record { those = sealed_are h n; rest = r.0; parts = r.1 })

pub equal_tiles : EqualErasHaveEqualTiles
equal_tiles h s n one eras = equal_eras h s n (ap (λ (header : Header). header.k) one) (ap (λ (header : Header). header.algs) one) eras

-- a tile has at most 1,024 granules
pub first_at_most : (h : History) (n : ℕ) → HasSpelling h → first_granule (layout h) n ≤ n * 1024
unfolding first_granule
first_at_most h zero fits = omega arith
first_at_most h (suc n) fits =
    let before = first_at_most h n fits in
    let size : 2 ^ exponent (layout h) n ≤ 2 ^ 10 = pow_mono (exponents_fit h n fits) in
    omega (arith, before, size)

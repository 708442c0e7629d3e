-- A left key with each right key: the versions that meet are all that count.
use Rattle.std.proofs.Common.{◌≡◌, ℕ, zero, suc, ◌<◌, ◌≤◌, nat_lt, min, not, Bool, true, false, ◌&&◌, ◌||◌, cond, if◌then◌else◌, inl, inr, Option, Some, None, IfSome, List, [], ◌∷◌, ◌++◌, length, map, slice_get, refl, sym, ap, subst, ◌∙◌, arith}
use Rattle.std.specs.BTreeMap.{is_at}
use Rattle.std.specs.Cmp.{IsTotalOrder, nat_cmp_total, on_total, then_total}
use Rattle.std.specs.List.{AllByRecursion, filter, flat_map}
use Rattle.std.specs.List.Sorted.{IsStrictlySortedBy}
use Rattle.std.specs.Option.{option_and_then, option_map_or}
use Rattle.std.specs.Ordering.{nat_cmp, ordering_then}
use Rattle.std.specs.declared.cmp.Ordering.{Ordering}
use Rattle.std.specs.declared.cmp.Ordering.TheVariants.{Less, Equal, Greater}
use Rattle.std.proofs.lemmas.Bool.Decides.{nat_tests}
use Rattle.std.proofs.lemmas.Grind.{flat_map-append}
use Rattle.std.proofs.lemmas.List.Folds.{flat_map-map}
use Rattle.std.proofs.lemmas.List.Kept.{IsStrictlySortedBy-filter}
use Rattle.std.proofs.lemmas.Option.{slice_get_within}
use Rattle.tuple_bytes.specs.declared.value.Value.{Value}
use Rattle.history_model.specs.Values.{is_null, same_key}
use Rattle.tt_table.specs.declared.version.Version.{Version}
use Rattle.sequenced_query.specs.declared.meeting.Meeting.{Meeting}
use Rattle.sequenced_query.specs.declared.piece.Piece.{Piece}
use Rattle.sequenced_query.specs.declared.span.Span.{Span}
use Rattle.sequenced_query.specs.declared.spots.Spot.{Spot}
use Rattle.sequenced_query.specs.Blocks.{meets}
use Rattle.sequenced_query.specs.Cells.{piece_in, cell, part_of, join_in, join_cells, join_key}
use Rattle.sequenced_query.specs.Cut.{EachPair}
use Rattle.sequenced_query.specs.Listing.{unless_null, join_value, spots_at, IsListing}
use Rattle.sequenced_query.specs.Plain.{are_joining}
use Rattle.sequenced_query.specs.Spots.{Has, version_at}
use Rattle.sequenced_query.specs.Wanted.{meeting_cmp, has, HasMeetings, AreWanted, join_cell, cells_of}
use Rattle.sequenced_query.proofs.Items.{All-has, has_map, has_flat, has_passing, passing_had, same_items}
use Rattle.sequenced_query.proofs.Noting.{equal_of, same_is}
use Rattle.sequenced_query.proofs.Pairs.{each_of, each_always, each_flat, pairs_of, pairs_flat, across_of}
use Rattle.sequenced_query.proofs.Rising.{sorted_from}
use Rattle.sequenced_query.proofs.SelectCut.{flat_same}
use Rattle.sequenced_query.proofs.Timing.{part_start, part_stop, stop_low}

-- ---- items that add nothing

abbrev is_full : List Piece → Bool
is_full [] = false
is_full (p ∷ ps) = true

module _ {A : Type 0} (C : A → List Piece) where
  flat_full : (xs : List A) → flat_map C xs ≡ flat_map C (filter (λ x. is_full (C x)) xs)
  flat_full [] = refl
  flat_full (x ∷ xs) = by (C x) refl (flat_full xs)
    where
      by : (ps : List Piece) → C x ≡ ps → flat_map C xs ≡ flat_map C (filter (λ x. is_full (C x)) xs) → C x ++ flat_map C xs ≡ flat_map C (cond (is_full (C x)) (x ∷ filter (λ x. is_full (C x)) xs) (filter (λ x. is_full (C x)) xs))
      by [] e later = ap (λ (qs : List Piece). qs ++ flat_map C xs) e ∙ later ∙ ap (λ b. flat_map C (cond b (x ∷ filter (λ x. is_full (C x)) xs) (filter (λ x. is_full (C x)) xs))) (sym (ap is_full e))
      by (p ∷ ps) e later = ap (λ (qs : List Piece). C x ++ qs) later ∙ ap (λ b. flat_map C (cond b (x ∷ filter (λ x. is_full (C x)) xs) (filter (λ x. is_full (C x)) xs))) (sym (ap is_full e))

  -- two lists in order add the same, if each has all items that add something
  same_flat : {R : A → A → Ordering} → IsTotalOrder R → (xs ys : List A) → IsStrictlySortedBy R xs → IsStrictlySortedBy R ys
      → ((x : A) → is_full (C x) ≡ true → Has x xs) → ((x : A) → is_full (C x) ≡ true → Has x ys) → flat_map C xs ≡ flat_map C ys
  same_flat {R} o xs ys sx sy inx iny =
      let full = λ (x : A). is_full (C x) in
      let same : filter full xs ≡ filter full ys =
      same_items o (filter full xs) (filter full ys) (IsStrictlySortedBy-filter R full xs sx) (IsStrictlySortedBy-filter R full ys sy)
      (λ z h. let e = (passing_had full z xs h).1 in has_passing full z ys (iny z e) e)
      (λ z h. let e = (passing_had full z ys h).1 in has_passing full z xs (inx z e) e) in
      flat_full xs ∙ ap (flat_map C) same ∙ sym (flat_full ys)

flat_none : {A B : Type 0} (xs : List A) → flat_map {X = A} {A = B} (λ x. []) xs ≡ []
flat_none [] = refl
flat_none (x ∷ xs) = flat_none xs

flat_flat : {A B D : Type 0} (f : B → List D) (C : A → List B) (xs : List A) → flat_map f (flat_map C xs) ≡ flat_map (λ x. flat_map f (C x)) xs
flat_flat f C [] = refl
flat_flat f C (x ∷ xs) = flat_map-append f (C x) (flat_map C xs) ∙ ap (λ ys. flat_map f (C x) ++ ys) (flat_flat f C xs)

-- ---- the places of a list

abbrev places : ℕ → List ℕ
places zero = []
places (suc n) = 0 ∷ map suc (places n)

has_place : (n k : ℕ) → k < n → Has k (places n)
has_place zero k lt = absurd (omega (arith, lt))
has_place (suc n) zero lt = inl refl
has_place (suc n) (suc k) lt = inr (has_map suc k (places n) (has_place n k (omega (arith, lt))))

abbrev Below : ℕ → ℕ → Type 0
Below a b = a < b

mapped_each : {A B : Type 0} (f : A → B) (P : B → Type 0) (xs : List A) → AllByRecursion (λ x. P (f x)) xs → AllByRecursion P (map f xs)
mapped_each f P [] h = tt
mapped_each f P (x ∷ xs) h = (h.0, mapped_each f P xs h.1)

mapped_pairs : {A B : Type 0} (f : A → B) (R : B → B → Type 0) (xs : List A) → EachPair (λ x y. R (f x) (f y)) xs → EachPair R (map f xs)
mapped_pairs f R [] h = tt
mapped_pairs f R (x ∷ xs) h = (mapped_each f (R (f x)) xs h.0, mapped_pairs f R xs h.1)

places_rise : (n : ℕ) → EachPair Below (places n)
places_rise zero = tt
places_rise (suc n) = (
  mapped_each suc (Below 0) (places n) (each_always (λ k. omega arith) (places n)),
  mapped_pairs suc Below (places n) (pairs_of (λ a b lt. omega (arith, lt)) (places n) (places_rise n)),
)

-- what stands at each place makes what the list makes
at_places : {A B : Type 0} (g : A → List B) (xs : List A) → flat_map (λ n. option_map_or g (slice_get xs n) []) (places (length xs)) ≡ flat_map g xs
at_places g [] = refl
at_places g (x ∷ xs) = ap (λ ys. g x ++ ys) (flat_map-map (λ n. option_map_or g (slice_get (x ∷ xs) n) []) suc (places (length xs)) ∙ at_places g xs)

-- ---- the order of meetings

abbrev meeting_of : ℕ → ℕ → ℕ → Meeting
meeting_of k l n = record { key = k; left = l; right = n }

meeting_total : IsTotalOrder meeting_cmp
meeting_total = then_total (on_total (λ (m : Meeting). m.key) nat_cmp_total) (then_total (on_total (λ (m : Meeting). m.left) nat_cmp_total) (on_total (λ (m : Meeting). m.right) nat_cmp_total))

both_equal : (a b : Ordering) → ordering_then a b ≡ Equal → (a ≡ Equal) × (b ≡ Equal)
both_equal Less b e = cc
both_equal Equal b e = (refl, e)
both_equal Greater b e = cc

meeting_is : (a b : Meeting) → meeting_cmp a b ≡ Equal → a ≡ b
meeting_is a b e =
    let outer = both_equal (nat_cmp a.key b.key) (ordering_then (nat_cmp a.left b.left) (nat_cmp a.right b.right)) e in
    let inner = both_equal (nat_cmp a.left b.left) (nat_cmp a.right b.right) outer.1 in
    let k : a.key ≡ b.key = grind (arith, nat_tests, outer.0) in
    let l : a.left ≡ b.left = grind (arith, nat_tests, inner.0) in
    let r : a.right ≡ b.right = grind (arith, nat_tests, inner.1) in
    ap (λ x. meeting_of x a.left a.right) k ∙ ap (λ x. meeting_of b.key x a.right) l ∙ ap (λ x. meeting_of b.key b.left x) r

-- the boolean test tells what is among them
pub has_is : (m : Meeting) (wanted : List Meeting) → has m wanted ≡ true → Has m wanted
has_is m [] e = cc
has_is m (w ∷ ws) e = by (is_at (meeting_cmp m) w) refl e (has_is m ws)
  where
    by : (b : Bool) → is_at (meeting_cmp m) w ≡ b → (b || has m ws) ≡ true → (has m ws ≡ true → Has m ws) → Has m (w ∷ ws)
    by true here h rest = inl (meeting_is m w (equal_of (meeting_cmp m w) here))
    by false here h rest = inr (rest h)

key_below : (a b : Meeting) → a.key < b.key → meeting_cmp a b ≡ Less
key_below a b lt = let less : nat_cmp a.key b.key ≡ Less = grind (arith, nat_tests, lt) in ap (λ r. ordering_then r (ordering_then (nat_cmp a.left b.left) (nat_cmp a.right b.right))) less

left_below : (a b : Meeting) → a.key ≡ b.key → a.left < b.left → meeting_cmp a b ≡ Less
left_below a b same lt =
    let tied : nat_cmp a.key b.key ≡ Equal = grind (arith, nat_tests, same) in
    let less : nat_cmp a.left b.left ≡ Less = grind (arith, nat_tests, lt) in
    ap (λ r. ordering_then r (ordering_then (nat_cmp a.left b.left) (nat_cmp a.right b.right))) tied ∙ ap (λ r. ordering_then r (nat_cmp a.right b.right)) less

right_below : (a b : Meeting) → a.key ≡ b.key → a.left ≡ b.left → a.right < b.right → meeting_cmp a b ≡ Less
right_below a b same tied_left lt =
    let tied : nat_cmp a.key b.key ≡ Equal = grind (arith, nat_tests, same) in
    let tied_too : nat_cmp a.left b.left ≡ Equal = grind (arith, nat_tests, tied_left) in
    let less : nat_cmp a.right b.right ≡ Less = grind (arith, nat_tests, lt) in
    ap (λ r. ordering_then r (ordering_then (nat_cmp a.left b.left) (nat_cmp a.right b.right))) tied
    ∙ ap (λ r. ordering_then r (nat_cmp a.right b.right)) tied_too ∙ less

-- ---- all meetings of a left key

module _ (span : Span) (i j : ℕ) (lefts : List Version) (keys : List (List Version)) where
  abbrev rights : Option (List Version) → List ℕ
  rights o = places (option_map_or length o 0)

  abbrev of_left : ℕ → ℕ → List Meeting
  of_left k l = map (meeting_of k l) (rights (slice_get keys k))

  abbrev of_key : ℕ → List Meeting
  of_key k = flat_map (of_left k) (places (length lefts))

  abbrev all_meetings : List Meeting
  all_meetings = flat_map of_key (places (length keys))

  abbrev Comes : Meeting → Meeting → Type 0
  Comes a b = meeting_cmp a b ≡ Less

  abbrev OfLeft : ℕ → ℕ → Meeting → Type 0
  OfLeft k l m = (m.key ≡ k) × (m.left ≡ l)

  left_is : (k l : ℕ) → AllByRecursion (OfLeft k l) (of_left k l)
  left_is k l = mapped_each (meeting_of k l) (OfLeft k l) (rights (slice_get keys k)) (each_always (λ n. (refl, refl)) (rights (slice_get keys k)))

  key_is : (k : ℕ) (ls : List ℕ) → AllByRecursion (λ m. m.key ≡ k) (flat_map (of_left k) ls)
  key_is k ls = each_flat (λ m. m.key ≡ k) (of_left k) ls (each_always (λ l. each_of (λ m h. h.0) (of_left k l) (left_is k l)) ls)

  left_rises : (k l : ℕ) → EachPair Comes (of_left k l)
  left_rises k l =
      mapped_pairs (meeting_of k l) Comes (rights (slice_get keys k))
      (pairs_of (λ a b lt. right_below (meeting_of k l a) (meeting_of k l b) refl refl lt) (rights (slice_get keys k)) (places_rise (option_map_or length (slice_get keys k) 0)))

  key_rises : (k : ℕ) → EachPair Comes (of_key k)
  key_rises k =
      pairs_flat Comes (of_left k) (places (length lefts)) (each_always (λ l. left_rises k l) (places (length lefts)))
      (pairs_of (λ l h lt. across_of Comes {P = OfLeft k l} {Q = OfLeft k h} (λ a b x y. left_below a b (x.0 ∙ sym y.0) (omega (arith, x.1, y.1, lt))) (of_left k l) (of_left k h) (left_is k l) (left_is k h))
      (places (length lefts)) (places_rise (length lefts)))

  all_rise : IsStrictlySortedBy meeting_cmp all_meetings
  all_rise =
      sorted_from meeting_cmp all_meetings
      (pairs_flat Comes of_key (places (length keys)) (each_always (λ k. key_rises k) (places (length keys)))
      (pairs_of (λ k h lt. across_of Comes {P = λ m. m.key ≡ k} {Q = λ m. m.key ≡ h} (λ a b x y. key_below a b (omega (arith, x, y, lt))) (of_key k) (of_key h) (key_is k (places (length lefts))) (key_is h (places (length lefts))))
      (places (length keys)) (places_rise (length keys))))

  -- ---- what they make

  abbrev C : Meeting → List Piece
  C = cells_of span i j lefts keys

  abbrev made : Option (List Version) → ℕ → ℕ → List Piece
  made o l n = option_map_or (λ v. option_map_or (λ w. join_cell i j v.row w (part_of span v)) (option_and_then (λ vs. slice_get vs n) o) []) (slice_get lefts l) []

  during : (row : List Value) (vs : List Version) (o : Option Span) → flat_map (λ w. join_cell i j row w o) vs ≡ join_in i j row vs o
  during row vs None = flat_none vs
  during row vs (Some part) = refl

  made_left : (vs : List Version) (l : ℕ) → flat_map (made (Some vs) l) (places (length vs)) ≡ option_map_or (λ v. join_in i j v.row vs (part_of span v)) (slice_get lefts l) []
  made_left vs l = by (slice_get lefts l)
    where
      by : (o : Option Version) → flat_map (λ n. option_map_or (λ v. option_map_or (λ w. join_cell i j v.row w (part_of span v)) (slice_get vs n) []) o []) (places (length vs)) ≡ option_map_or (λ v. join_in i j v.row vs (part_of span v)) o []
      by None = flat_none (places (length vs))
      by (Some v) = at_places (λ w. join_cell i j v.row w (part_of span v)) vs ∙ during v.row vs (part_of span v)

  made_key : (o : Option (List Version)) → flat_map (λ l. flat_map (made o l) (rights o)) (places (length lefts)) ≡ option_map_or (join_cells span i j lefts) o []
  made_key None = flat_none (places (length lefts))
  made_key (Some vs) =
      flat_same (λ l. flat_map (made (Some vs) l) (places (length vs))) (λ l. option_map_or (λ v. join_in i j v.row vs (part_of span v)) (slice_get lefts l) []) (places (length lefts)) (each_always (λ l. made_left vs l) (places (length lefts)))
      ∙ at_places (λ v. join_in i j v.row vs (part_of span v)) lefts

  key_makes : (k : ℕ) → flat_map C (of_key k) ≡ option_map_or (join_cells span i j lefts) (slice_get keys k) []
  key_makes k =
      flat_flat C (of_left k) (places (length lefts))
      ∙ flat_same (λ l. flat_map C (of_left k l)) (λ l. flat_map (made (slice_get keys k) l) (rights (slice_get keys k))) (places (length lefts)) (each_always (λ l. flat_map-map C (meeting_of k l) (rights (slice_get keys k))) (places (length lefts)))
      ∙ made_key (slice_get keys k)

  all_make : flat_map C all_meetings ≡ join_key span i j keys lefts
  all_make =
      flat_flat C of_key (places (length keys))
      ∙ flat_same (λ k. flat_map C (of_key k)) (λ k. option_map_or (join_cells span i j lefts) (slice_get keys k) []) (places (length keys)) (each_always (λ k. key_makes k) (places (length keys)))
      ∙ at_places (join_cells span i j lefts) keys

  -- ---- two versions that make something

  -- who they are, and that they join while both count
  record Makes (m : Meeting) : Type 0 where
    pub key : List Version
    pub left : Version
    pub right : Version
    pub key_at : slice_get keys m.key ≡ Some key
    pub left_at : slice_get lefts m.left ≡ Some left
    pub right_at : slice_get key m.right ≡ Some right
    pub full : is_full (join_cell i j left.row right (part_of span left)) ≡ true

  makes : (m : Meeting) → is_full (C m) ≡ true → Makes m
  makes m e = by (slice_get lefts m.left) refl (slice_get keys m.key) refl e
    where
      by : (a : Option Version) → slice_get lefts m.left ≡ a → (b : Option (List Version)) → slice_get keys m.key ≡ b
          → is_full (option_map_or (λ v. option_map_or (λ w. join_cell i j v.row w (part_of span v)) (option_and_then (λ vs. slice_get vs m.right) b) []) a []) ≡ true → Makes m
      by None ea b eb e = cc
      by (Some v) ea None eb e = cc
      by (Some v) ea (Some vs) eb e = within (slice_get vs m.right) refl e
        where
          within : (d : Option Version) → slice_get vs m.right ≡ d → is_full (option_map_or (λ w. join_cell i j v.row w (part_of span v)) d []) ≡ true → Makes m
          within None ed e = cc
          within (Some w) ed e = record { key = vs; left = v; right = w; key_at = eb; left_at = ea; right_at = ed; full = e }

  -- it is one of all
  is_one : (m : Meeting) → is_full (C m) ≡ true → Has m all_meetings
  is_one m e =
      let h = makes m e in
      let fits : m.right < option_map_or length (slice_get keys m.key) 0 = subst (λ o. m.right < option_map_or length o 0) (sym h.key_at) (slice_get_within h.key m.right h.right h.right_at) in
      has_flat of_key m.key m (places (length keys)) (has_place (length keys) m.key (slice_get_within keys m.key h.key h.key_at))
      (has_flat (of_left m.key) m.left m (places (length lefts)) (has_place (length lefts) m.left (slice_get_within lefts m.left h.left h.left_at))
      (has_map (meeting_of m.key m.left) m.right (rights (slice_get keys m.key)) (has_place (option_map_or length (slice_get keys m.key) 0) m.right fits)))

  -- ---- each is wanted

  -- the value by which two rows join
  record Joins (v w : Version) : Type 0 where
    pub value : Value
    pub left_has : join_value i v.row ≡ Some value
    pub right_has : join_value j w.row ≡ Some value

  joins : (v w : Version) → are_joining (slice_get v.row i) (slice_get w.row j) ≡ true → Joins v w
  joins v w e = by (slice_get v.row i) refl (slice_get w.row j) refl e
    where
      by : (a : Option Value) → slice_get v.row i ≡ a → (b : Option Value) → slice_get w.row j ≡ b → are_joining a b ≡ true → Joins v w
      by None ea b eb e = cc
      by (Some x) ea None eb e = cc
      by (Some x) ea (Some y) eb e = both (is_null x) refl (same_key x y) refl e
        where
          both : (n : Bool) → is_null x ≡ n → (s : Bool) → same_key x y ≡ s → (not n && s) ≡ true → Joins v w
          both true null s same e = cc
          both false null false same e = cc
          both false null true same e =
              let is : x ≡ y = same_is x y same in
              let has_left : join_value i v.row ≡ Some x = ap (option_and_then unless_null) ea ∙ ap (λ b. if b then None else Some x) null in
              let has_right : join_value j w.row ≡ Some x = ap (option_and_then unless_null) eb ∙ ap unless_null (sym is) ∙ ap (λ b. if b then None else Some x) null in
              record { value = x; left_has = has_left; right_has = has_right }

  -- a part of a part is a part, and meets it
  record MeetsIn (part : Span) (w : Version) : Type 0 where
    pub own : Span
    pub is_own : part_of span w ≡ Some own
    pub meet : meets own part ≡ true

  abbrev whole_part : Span → Version → Span
  whole_part s v = record { from = part_start s v; to = part_stop s v }

  meets_in : (v : Version) (part : Span) → part_of span v ≡ Some part → (w : Version) → nat_lt (part_start part w) (part_stop part w) ≡ true → MeetsIn part w
  meets_in v part is w filled =
      let inside : (span.from ≤ part.from) × (part.to ≤ span.to) = subst_part (nat_lt (part_start span v) (part_stop span v)) is in
      let bounds = stops span.to part.to w.stop inside.1 in
      let there : part_start part w < part_stop part w = grind (arith, nat_tests, filled) in
      let low : part_start span w ≤ part_start part w = omega (arith, inside.0) in
      let own : nat_lt (part_start span w) (part_stop span w) ≡ true = grind (arith, nat_tests, there, low, bounds.0) in
      let a : nat_lt (part_start span w) part.to ≡ true = grind (arith, nat_tests, there, low, bounds.1) in
      let b : nat_lt part.from (part_stop span w) ≡ true = grind (arith, nat_tests, there, bounds.0) in
      record { own = whole_part span w; is_own = ap (λ x. if x then Some (whole_part span w) else None) own; meet = ap (λ x. x && nat_lt part.from (part_stop span w)) a ∙ b }
    where
      subst_part : (b : Bool) → (if b then Some (whole_part span v) else None) ≡ Some part → (span.from ≤ part.from) × (part.to ≤ span.to)
      subst_part true e =
          let same : whole_part span v ≡ part = cc in
          let low : part_start span v ≡ part.from = ap (λ (s : Span). s.from) same in
          let high : part_stop span v ≡ part.to = ap (λ (s : Span). s.to) same in
          (omega (arith, low), omega (arith, high, stop_low span.to v.stop))
      subst_part false e = cc

      stops : (outer inner : ℕ) (o : Option ℕ) → inner ≤ outer → (option_map_or (min inner) o inner ≤ option_map_or (min outer) o outer) × (option_map_or (min inner) o inner ≤ inner)
      stops outer inner None le = (le, omega arith)
      stops outer inner (Some s) le = (omega (arith, le), omega arith)

  module _ (entries : List (Value × List Spot)) (wanted : List Meeting) (listing : IsListing j span keys entries) (are : AreWanted i span entries lefts wanted) where
    abbrev spot_of : ℕ → ℕ → Span → Spot
    spot_of k n q = record { part = q; key = k; version = n }

    -- the right version's spot is under the value
    right_spot : (k n : ℕ) (w : Version) (x : Value) (q : Span) → version_at keys k n ≡ Some w → join_value j w.row ≡ Some x → part_of span w ≡ Some q → Has (spot_of k n q) (spots_at entries x)
    right_spot k n w x q at has is =
        let a = subst (λ o. IfSome o (λ v. IfSome (join_value j v.row) (λ x. IfSome (part_of span v) (λ q. Has (spot_of k n q) (spots_at entries x))))) at (listing k n) in
        let b = subst (λ o. IfSome o (λ x. IfSome (part_of span w) (λ q. Has (spot_of k n q) (spots_at entries x)))) has a in
        subst (λ o. IfSome o (λ q. Has (spot_of k n q) (spots_at entries x))) is b

    -- the left version is wanted with all that meet
    left_wants : (l : ℕ) (v : Version) (x : Value) (p : Span) → slice_get lefts l ≡ Some v → part_of span v ≡ Some p → join_value i v.row ≡ Some x → HasMeetings l p wanted (spots_at entries x)
    left_wants l v x p at is has_value =
        let a = subst (λ o. IfSome o (λ v. IfSome (part_of span v) (λ p. IfSome (join_value i v.row) (λ x. HasMeetings l p wanted (spots_at entries x))))) at (are l) in
        let b = subst (λ o. IfSome o (λ p. IfSome (join_value i v.row) (λ x. HasMeetings l p wanted (spots_at entries x)))) is a in
        subst (λ o. IfSome o (λ x. HasMeetings l p wanted (spots_at entries x))) has_value b

    wanted_two : (m : Meeting) (h : Makes m) (p : Span) → part_of span h.left ≡ Some p → Joins h.left h.right → MeetsIn p h.right → Has m wanted
    wanted_two m h p is join meet =
        let at : version_at keys m.key m.right ≡ Some h.right = ap (option_and_then (λ vs. slice_get vs m.right)) h.key_at ∙ h.right_at in
        let spot = right_spot m.key m.right h.right join.value meet.own at join.right_has meet.is_own in
        let wants = left_wants m.left h.left join.value p h.left_at is join.left_has in
        has_is m wanted (All-has (λ s. meets s.part p ≡ true → has (record { key = s.key; left = m.left; right = s.version }) wanted ≡ true) (spots_at entries join.value) wants (spot_of m.key m.right meet.own) spot meet.meet)

    is_wanted : (m : Meeting) → is_full (C m) ≡ true → Has m wanted
    is_wanted m e = let h = makes m e in by h (part_of span h.left) refl h.full
      where
        by : (h : Makes m) → (o : Option Span) → part_of span h.left ≡ o → is_full (join_cell i j h.left.row h.right o) ≡ true → Has m wanted
        by h None is e = cc
        by h (Some p) is e = joined (are_joining (slice_get h.left.row i) (slice_get h.right.row j)) refl e
          where
            timed : (b : Bool) → nat_lt (part_start p h.right) (part_stop p h.right) ≡ b → are_joining (slice_get h.left.row i) (slice_get h.right.row j) ≡ true
                → is_full (piece_in (h.left.row ++ h.right.row) (if b then Some (whole_part p h.right) else None)) ≡ true → Has m wanted
            timed true filled both e = wanted_two m h p is (joins h.left h.right both) (meets_in h.left p is h.right filled)
            timed false filled both e = cc

            joined : (b : Bool) → are_joining (slice_get h.left.row i) (slice_get h.right.row j) ≡ b → is_full (cell p h.right (if b then Some (h.left.row ++ h.right.row) else None)) ≡ true → Has m wanted
            joined true both e = timed (nat_lt (part_start p h.right) (part_stop p h.right)) refl both e
            joined false both e = cc

    pub picked : IsStrictlySortedBy meeting_cmp wanted → flat_map C wanted ≡ join_key span i j keys lefts
    picked rising = same_flat C meeting_total wanted all_meetings rising all_rise is_wanted is_one ∙ all_make

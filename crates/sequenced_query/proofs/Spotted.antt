-- The spots of versions, and the versions that are wanted, one more at a time.
use Rattle.std.proofs.Common.{◌≡◌, ℕ, ◌+◌, ◌<◌, ◌≤◌, nat_lt, Bool, true, false, Option, Some, None, IfSome, List, length, slice_get, get_or, refl, sym, subst, arith}
use Rattle.std.specs.Option.{option_and_then}
use Rattle.std.proofs.lemmas.Bool.Decides.{nat_tests}
use Rattle.std.proofs.lemmas.Option.{slice_get_past, slice_get_read}
use Rattle.tuple_bytes.specs.declared.value.Value.{Value}
use Rattle.tt_table.specs.declared.version.Version.{Version}
use Rattle.sequenced_query.specs.declared.meeting.Meeting.{Meeting}
use Rattle.sequenced_query.specs.declared.span.Span.{Span}
use Rattle.sequenced_query.specs.declared.spots.Spot.{Spot}
use Rattle.sequenced_query.specs.Cells.{part_of}
use Rattle.sequenced_query.specs.Listing.{join_value, spots_at}
use Rattle.sequenced_query.specs.Spots.{AreSpots, Has, HasSpot, version_at}
use Rattle.sequenced_query.specs.Wanted.{HasMeetings, IsKept, IsWanted, WantsSpot}
use Rattle.sequenced_query.proofs.Pairs.{each_of}

-- what holds of the first places, and of the next, holds of one place more
next_place : (P : ℕ → Type 0) (place : ℕ) → ((n : ℕ) → n < place → P n) → P place → (n : ℕ) → n < place + 1 → P n
next_place P place before here n low = by (nat_lt n place) refl
  where
    by : (b : Bool) → nat_lt n place ≡ b → P n
    by true lt = before n (grind (arith, nat_tests, lt))
    by false lt = let at : place ≡ n = grind (arith, nat_tests, lt, low) in subst P at here

-- and behind the last place there is nothing
every_place : {A : Type 0} (P : ℕ → Option A → Type 0) → ((n : ℕ) → P n None) → (xs : List A) (place : ℕ) → length xs ≤ place → ((n : ℕ) → n < place → P n (slice_get xs n)) → (n : ℕ) → P n (slice_get xs n)
every_place P none xs place le before n = by (nat_lt n place) refl
  where
    by : (b : Bool) → nat_lt n place ≡ b → P n (slice_get xs n)
    by true lt = before n (grind (arith, nat_tests, lt))
    by false lt = let past : length xs ≤ n = grind (arith, nat_tests, lt, le) in subst (P n) (sym (slice_get_past xs n past)) (none n)

-- ---- spots

abbrev pub Stays : List Spot → List Spot → Type 0
Stays old new = (s : Spot) → Has s old → Has s new

spot_later : (span : Span) (old new : List Spot) → Stays old new → (k n : ℕ) (o : Option Version) → HasSpot span old k n o → HasSpot span new k n o
spot_later span old new stays k n None h = tt
spot_later span old new stays k n (Some v) h = by (part_of span v) h
  where
    by : (o : Option Span) → IfSome o (λ q. Has (record { part = q; key = k; version = n }) old) → IfSome o (λ q. Has (record { part = q; key = k; version = n }) new)
    by None h = tt
    by (Some q) h = stays (record { part = q; key = k; version = n }) h

pub next_version : (span : Span) (old new : List Spot) → Stays old new → (k place : ℕ) (vs : List Version) (v : Version) → place < length vs → v ≡ get_or vs place v
    → ((n : ℕ) → n < place → HasSpot span old k n (slice_get vs n)) → HasSpot span new k place (Some v) → (n : ℕ) → n < place + 1 → HasSpot span new k n (slice_get vs n)
next_version span old new stays k place vs v lt is before here =
    next_place (λ n. HasSpot span new k n (slice_get vs n)) place (λ n low. spot_later span old new stays k n (slice_get vs n) (before n low))
    (subst (HasSpot span new k place) (sym (slice_get_read vs (length vs) place v refl lt is)) here)

pub all_versions : (span : Span) (spots : List Spot) (k place : ℕ) (vs : List Version) → length vs ≤ place → ((n : ℕ) → n < place → HasSpot span spots k n (slice_get vs n)) → (n : ℕ) → HasSpot span spots k n (slice_get vs n)
all_versions span spots k place vs le before = every_place (λ n o. HasSpot span spots k n o) (λ n. tt) vs place le before

-- those of the first keys, and of the next
pub next_key : (span : Span) (old new : List Spot) → Stays old new → (key : ℕ) (keys : List (List Version)) (vs : List Version) → key < length keys → vs ≡ get_or keys key vs
    → ((k n : ℕ) → k < key → HasSpot span old k n (version_at keys k n)) → ((n : ℕ) → HasSpot span new key n (slice_get vs n)) → (k n : ℕ) → k < key + 1 → HasSpot span new k n (version_at keys k n)
next_key span old new stays key keys vs lt is before here k n low =
    next_place (λ k. HasSpot span new k n (version_at keys k n)) key (λ k low. spot_later span old new stays k n (version_at keys k n) (before k n low))
    (subst (λ o. HasSpot span new key n (option_and_then (λ vs. slice_get vs n) o)) (sym (slice_get_read keys (length keys) key vs refl lt is)) (here n)) k low

pub all_keys : (span : Span) (spots : List Spot) (key : ℕ) (keys : List (List Version)) → length keys ≤ key → ((k n : ℕ) → k < key → HasSpot span spots k n (version_at keys k n)) → AreSpots span keys spots
all_keys span spots key keys le before k n =
    every_place (λ k o. HasSpot span spots k n (option_and_then (λ vs. slice_get vs n) o)) (λ k. tt) keys key le (λ k low. before k n low) k

-- spots in another order
pub reordered : (span : Span) (keys : List (List Version)) (old new : List Spot) → Stays old new → AreSpots span keys old → AreSpots span keys new
reordered span keys old new stays are k n = spot_later span old new stays k n (version_at keys k n) (are k n)

-- ---- what is wanted

module _ (column : ℕ) (span : Span) (entries : List (Value × List Spot)) where
  wanted_later : (old new : List Meeting) → IsKept old new → (n : ℕ) (o : Option Version) → IsWanted column span entries old n o → IsWanted column span entries new n o
  wanted_later old new stays n None h = tt
  wanted_later old new stays n (Some v) h = of_part (part_of span v) h
    where
      each_later : (p : Span) (ss : List Spot) → HasMeetings n p old ss → HasMeetings n p new ss
      each_later p ss = each_of {P = WantsSpot n p old} {Q = WantsSpot n p new} (λ s w meet. stays (record { key = s.key; left = n; right = s.version }) (w meet)) ss

      of_value : (p : Span) (o : Option Value) → IfSome o (λ x. HasMeetings n p old (spots_at entries x)) → IfSome o (λ x. HasMeetings n p new (spots_at entries x))
      of_value p None h = tt
      of_value p (Some x) h = each_later p (spots_at entries x) h

      of_part : (o : Option Span) → IfSome o (λ p. IfSome (join_value column v.row) (λ x. HasMeetings n p old (spots_at entries x))) → IfSome o (λ p. IfSome (join_value column v.row) (λ x. HasMeetings n p new (spots_at entries x)))
      of_part None h = tt
      of_part (Some p) h = of_value p (join_value column v.row) h

  pub next_wanted : (old new : List Meeting) → IsKept old new → (place : ℕ) (vs : List Version) (v : Version) → place < length vs → v ≡ get_or vs place v
      → ((n : ℕ) → n < place → IsWanted column span entries old n (slice_get vs n)) → IsWanted column span entries new place (Some v) → (n : ℕ) → n < place + 1 → IsWanted column span entries new n (slice_get vs n)
  next_wanted old new stays place vs v lt is before here =
      next_place (λ n. IsWanted column span entries new n (slice_get vs n)) place (λ n low. wanted_later old new stays n (slice_get vs n) (before n low))
      (subst (IsWanted column span entries new place) (sym (slice_get_read vs (length vs) place v refl lt is)) here)

  pub all_wanted : (wanted : List Meeting) (place : ℕ) (vs : List Version) → length vs ≤ place → ((n : ℕ) → n < place → IsWanted column span entries wanted n (slice_get vs n)) → (n : ℕ) → IsWanted column span entries wanted n (slice_get vs n)
  all_wanted wanted place vs le before = every_place (λ n o. IsWanted column span entries wanted n o) (λ n. tt) vs place le before

-- Where the versions of keys stand, and when they count within a span.
use Rattle.std.specs.Prelude.{◌≡◌, ℕ, ◌⊎◌, Option, IfSome, List, [], ◌∷◌, slice_get}
use Rattle.std.specs.Option.{option_and_then}
use Rattle.tt_table.specs.declared.version.Version.{Version}
use Rattle.sequenced_query.specs.declared.span.Span.{Span}
use Rattle.sequenced_query.specs.declared.spots.Spot.{Spot}
use Rattle.sequenced_query.specs.Cells.{part_of}

-- x is an item of the list
abbrev pub Has : {A : Type 0} → A → List A → Type 0
Has x [] = ⊥
Has x (y ∷ ys) = (x ≡ y) ⊎ Has x ys

-- a version by the place of its key, and its own among those of the key
abbrev pub version_at : List (List Version) → ℕ → ℕ → Option Version
version_at keys k n = option_and_then (λ vs. slice_get vs n) (slice_get keys k)

-- the version at a place, if there is one, has its spot if it counts within the span
abbrev pub HasSpot : Span → List Spot → ℕ → ℕ → Option Version → Type 0
HasSpot span spots k n o = IfSome o (λ v. IfSome (part_of span v) (λ q. Has (record { part = q; key = k; version = n }) spots))

-- those of all keys have
abbrev pub AreSpots : Span → List (List Version) → List Spot → Type 0
AreSpots span keys spots = (k n : ℕ) → HasSpot span spots k n (version_at keys k n)

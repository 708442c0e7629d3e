-- An answer for all moments of a span, as pieces.
use Rattle.std.specs.Prelude.{◌≡◌, ℕ, ◌<◌, ◌≤◌, nat_le, nat_lt, Bool, ◌&&◌, ◌⊎◌, if◌then◌else◌, Option, Some, None, List, [], ◌∷◌, drop, ⊤}
use Rattle.std.specs.List.{AllByRecursion, filter_map}
use Rattle.std.specs.List.Sorted.{IsStrictlySortedBy}
use Rattle.std.specs.Ordering.{nat_cmp, on, then_cmp}
use Rattle.std.specs.declared.cmp.Ordering.{Ordering}
use Rattle.tuple_bytes.specs.declared.value.Value.{Value}
use Rattle.tuple_bytes.specs.Order.{value_cmp}
use Rattle.history_model.specs.Values.{key_of}
use Rattle.sequenced_query.specs.declared.piece.Piece.{Piece}

-- a piece counts from its start up to, and not including, its stop
abbrev pub counts_at : ℕ → Piece → Bool
counts_at m p = nat_le p.start m && nat_lt m p.stop

abbrev pub row_during : ℕ → Piece → Option (List Value)
row_during m p = if counts_at m p then Some p.row else None

-- the rows of the pieces that count at a moment, in their order
abbrev pub rows_during : ℕ → List Piece → List (List Value)
rows_during m pieces = filter_map (row_during m) pieces

-- the right key of a joined row, behind the left table's columns; a row of one table has none
abbrev pub right_key : ℕ → List Value → Value
right_key width row = key_of (drop width row)

-- rows by left key, then by right key
unfoldable pub row_order : ℕ → List Value → List Value → Ordering
row_order width = then_cmp (on key_of value_cmp) (on (right_key width) value_cmp)

-- pieces by left key, then by right key, then by start
unfoldable pub piece_order : ℕ → Piece → Piece → Ordering
piece_order width = then_cmp (on (λ p. p.row) (row_order width)) (on (λ p. p.start) nat_cmp)

-- a piece is not empty, and lies within the span
abbrev pub IsWithin : ℕ → ℕ → Piece → Type 0
IsWithin from to p = (from ≤ p.start) × (p.start < p.stop) × (p.stop ≤ to)

-- two pieces with the same row neither overlap nor meet
abbrev pub AreApart : Piece → Piece → Type 0
AreApart p q = p.row ≡ q.row → (p.stop < q.start) ⊎ (q.stop < p.start)

-- a relation holds between each item and each later one
abbrev pub EachPair : {A : Type 0} → (A → A → Type 0) → List A → Type 0
EachPair R [] = ⊤
EachPair R (x ∷ xs) = AllByRecursion (R x) xs × EachPair R xs

-- The pieces are the answer for the moments from `from` up to, and not including, `to`. At each moment their rows
-- are exactly those of the answer at this moment, each once. `width` is the number of columns of the (left) table.
pub record IsCut (width : ℕ) (answer : ℕ → List (List Value)) (from to : ℕ) (pieces : List Piece) : Type 0 where
  pub rows : (m : ℕ) → from ≤ m → m < to → rows_during m pieces ≡ answer m
  pub within : AllByRecursion (IsWithin from to) pieces
  pub apart : EachPair AreApart pieces
  pub rising : IsStrictlySortedBy (piece_order width) pieces

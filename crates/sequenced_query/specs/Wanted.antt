-- The versions of a left key that meet right versions.
use Rattle.std.specs.Prelude.{◌≡◌, ℕ, ◌<◌, ◌≤◌, Bool, true, Option, Some, None, IfSome, List, [], slice_get, slice_index_or}
use Rattle.std.specs.BTreeMap.{is_at}
use Rattle.std.specs.List.{AllByRecursion, list_any}
use Rattle.std.specs.Option.{option_map_or}
use Rattle.std.specs.Ordering.{nat_cmp, ordering_then}
use Rattle.std.specs.declared.cmp.Ordering.{Ordering}
use Rattle.tuple_bytes.specs.declared.value.Value.{Value}
use Rattle.tt_table.specs.declared.version.Version.{Version}
use Rattle.sequenced_query.specs.declared.blocks.Entry.{Entry}
use Rattle.sequenced_query.specs.declared.meeting.Meeting.{Meeting}
use Rattle.sequenced_query.specs.declared.piece.Piece.{Piece}
use Rattle.sequenced_query.specs.declared.span.Span.{Span}
use Rattle.sequenced_query.specs.declared.spots.Spot.{Spot}
use Rattle.sequenced_query.specs.Blocks.{meets}
use Rattle.sequenced_query.specs.Cells.{cell, part_of}
use Rattle.sequenced_query.specs.Listing.{join_value, spots_at}
use Rattle.sequenced_query.specs.Plain.{joined_row}
use Rattle.sequenced_query.specs.Spots.{version_at}

-- by the right key, then by the left version, then by the right one
abbrev pub meeting_cmp : Meeting → Meeting → Ordering
meeting_cmp a b = ordering_then (nat_cmp a.key b.key) (ordering_then (nat_cmp a.left b.left) (nat_cmp a.right b.right))

-- whether a meeting is among these
abbrev pub has : Meeting → List Meeting → Bool
has m wanted = list_any (is_at (meeting_cmp m)) wanted

-- what is wanted stays so
abbrev pub IsKept : List Meeting → List Meeting → Type 0
IsKept old new = (m : Meeting) → has m old ≡ true → has m new ≡ true

-- a left version is wanted with a spot, if this meets its part
abbrev pub WantsSpot : ℕ → Span → List Meeting → Spot → Type 0
WantsSpot left part wanted s = meets s.part part ≡ true → has (record { key = s.key; left = left; right = s.version }) wanted ≡ true

-- so it is with each of these spots
abbrev pub HasMeetings : ℕ → Span → List Meeting → List Spot → Type 0
HasMeetings left part wanted spots = AllByRecursion (WantsSpot left part wanted) spots

-- so it is with the spots of the entries from one place up to, and not including, another
abbrev pub WantsBetween : ℕ → Span → List Meeting → List Entry → ℕ → ℕ → Type 0
WantsBetween left part wanted es first last = (j : ℕ) (d : Entry) → first ≤ j → j < last → WantsSpot left part wanted (slice_index_or es j d).spot

-- a left version, if it is there, is wanted with the right versions that have its value while it counts
abbrev pub IsWanted : ℕ → Span → List (Value × List Spot) → List Meeting → ℕ → Option Version → Type 0
IsWanted column span entries wanted left o =
    IfSome o (λ v. IfSome (part_of span v) (λ p. IfSome (join_value column v.row) (λ x. HasMeetings left p wanted (spots_at entries x))))

-- all of these are
abbrev pub AreWanted : ℕ → Span → List (Value × List Spot) → List Version → List Meeting → Type 0
AreWanted column span entries lefts wanted = (n : ℕ) → IsWanted column span entries wanted n (slice_get lefts n)

-- a left row, during its version's part of the span, with a right version
abbrev pub join_cell : ℕ → ℕ → List Value → Version → Option Span → List Piece
join_cell i j row w None = []
join_cell i j row w (Some part) = cell part w (joined_row i j row w.row)

-- the two versions of a meeting, if both are there
abbrev pub cells_of : Span → ℕ → ℕ → List Version → List (List Version) → Meeting → List Piece
cells_of span i j lefts keys m =
    option_map_or (λ v. option_map_or (λ w. join_cell i j v.row w (part_of span v)) (version_at keys m.key m.right) []) (slice_get lefts m.left) []

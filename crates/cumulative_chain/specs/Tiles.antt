-- The values of the chain at some ends, as those of tiles, over the spellings of granules by their numbers.
use Rattle.std.specs.Prelude.{ℕ, zero, suc, ◌-◌, ◌<◌, ◌≤◌, nat_lt, List, [], length, take, map, filter, slice_index, slice_index_or}
use Rattle.std.specs.List.{flat_map}
use Rattle.tuple_bytes.specs.declared.header.Header.{Header}
use Rattle.digest_model.specs.Layout.{Layout, end_granule}
use Rattle.digest_model.specs.Digests.{link_of_spelled}

-- a granule's number, and the spellings of its transactions in file order
abbrev pub Granule : Type 0
Granule = ℕ × List (List ℕ)

abbrev pub numbers_of : List Granule → List ℕ
numbers_of granules = map (λ g. g.0) granules

-- the spellings of the granules below a number, a granule after the other
unfoldable pub spelled_below : List Granule → ℕ → List (List ℕ)
spelled_below granules end = flat_map (λ g. g.1) (filter (λ g. nat_lt g.0 end) granules)

-- the value of the chain over the granules below a number
abbrev pub link_below : Header → List Granule → ℕ → List ℕ
link_below header granules end = link_of_spelled header (spelled_below granules end)

-- its value at the end of a tile
abbrev pub link_at : Header → Layout → List Granule → ℕ → List ℕ
link_at header l granules tile = link_below header granules (end_granule l tile)

-- no end is below one before it
abbrev pub Ascend : List ℕ → Type 0
Ascend ends = (i j : ℕ) → i ≤ j → j < length ends → slice_index ends i ≤ slice_index ends j

-- the last of some ends, or the begin of all granules where there is none
abbrev pub last_end : List ℕ → ℕ
last_end ends = slice_index ends (length ends - 1)

-- ---- going from granule to granule

-- where the granules end that the first i ends bound
unfoldable pub end_before : List ℕ → ℕ → ℕ
end_before ends zero = 0
end_before ends (suc i) = slice_index ends i

-- the spellings of the first granules of the list
unfoldable pub front : List Granule → ℕ → List (List ℕ)
front granules place = flat_map (λ g. g.1) (take place granules)

-- the granules before a place lie below the end
abbrev pub AreBelow : List Granule → ℕ → ℕ → Type 0
AreBelow granules place end = (i : ℕ) → i < place → (slice_index_or granules i (0, [])).0 < end

-- and the one at the place does not
pub record IsSplit (granules : List Granule) (place end : ℕ) : Type 0 where
  pub within : place ≤ length granules
  pub below : AreBelow granules place end
  pub stop : place < length granules → end ≤ (slice_index_or granules place (0, [])).0

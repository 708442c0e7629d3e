-- Where the tiles of a history lie. A tile is a run of granules, a power of two of them. An era is a run of tiles with one exponent and the same chains.
use Rattle.std.specs.Prelude.{◌≡◌, ◌<◌, ℕ, zero, suc, ◌+◌, ◌^◌, ◌==◌, ◌||◌, ◌&&◌, nat_le, nat_lt, if◌then◌else◌, Bool, true, false, List, [], ◌∷◌, ◌++◌, length, map, filter, fold, Option, Some}
use Rattle.std.specs.List.{range_with_len, slice_get}
use Rattle.std.specs.Int.{bit_at}
use Rattle.tuple_bytes.specs.declared.header.Header.{Header}
use Rattle.tuple_bytes.specs.declared.item.Item.{Item}
use Rattle.tuple_bytes.specs.declared.item.Item.TheVariants as items
use Rattle.history_model.specs.History.{History}
pub use Rattle.tuple_bytes.specs.Limits.{max_granules}

-- the exponent and the algorithms from a tile on
pub record Era : Type 0 where
  pub tile : ℕ
  pub k : ℕ
  pub algs : ℕ

-- where tiles lie, and which chains they have: for each tile its exponent, its algorithms, and the eras but the first that begin there
pub record Layout : Type 0 where
  pub exponents : ℕ → ℕ
  pub algorithms : ℕ → ℕ
  pub begun : ℕ → List Era

-- a tile has the same exponent and the same chains in two layouts, and the same eras begin there
pub record SameTile (l m : Layout) (tile : ℕ) : Type 0 where
  pub exponent : l.exponents tile ≡ m.exponents tile
  pub algorithms : l.algorithms tile ≡ m.algorithms tile
  pub begun : l.begun tile ≡ m.begun tile

-- so have the first n tiles
abbrev pub SameTiles : ℕ → Layout → Layout → Type 0
SameTiles n l m = (tile : ℕ) → tile < n → SameTile l m tile

-- a tile has 2 to this power granules
unfoldable pub exponent : Layout → ℕ → ℕ
exponent l tile = l.exponents tile

-- how many granules a tile has
abbrev pub tile_size : Layout → ℕ → ℕ
tile_size l tile = 2 ^ exponent l tile

-- the first granule of a tile: tiles lie one behind the other, so it is the number of granules in the tiles before
unfoldable pub first_granule : Layout → ℕ → ℕ
first_granule l zero = 0
first_granule l (suc tile) = first_granule l tile + tile_size l tile

-- the last of the first tiles that begins at a granule or before it
unfoldable pub tile_up : Layout → ℕ → ℕ → ℕ
tile_up l g zero = 0
tile_up l g (suc n) = if nat_le (first_granule l (suc n)) g then suc n else tile_up l g n

-- the tile that a granule lies in: no later one begins before it, as a tile has a granule at least
unfoldable pub tile_of : Layout → ℕ → ℕ
tile_of l g = tile_up l g g

-- one more than the last granule of a tile
abbrev pub end_granule : Layout → ℕ → ℕ
end_granule l tile = first_granule l tile + tile_size l tile

-- whether a tile has the chains of its parts
unfoldable pub has_tile_chains : Layout → ℕ → Bool
has_tile_chains l tile = bit_at (l.algorithms tile) 0 == 1

-- whether the granules of a tile are leaves of the tree
unfoldable pub has_tree : Layout → ℕ → Bool
has_tree l tile = bit_at (l.algorithms tile) 1 == 1

-- the part that is the whole tile
abbrev pub whole : ℕ
whole = 255

-- the whole tile, or the granules whose number within the tile has this bit equal to 0
abbrev pub is_in_part : ℕ → ℕ → Bool
is_in_part part number = (part == whole) || (bit_at number part == 0)

-- the numbers below a size that are in a part, ascending
abbrev pub numbers_in_part : ℕ → ℕ → List ℕ
numbers_in_part part size = filter (is_in_part part) (range_with_len 0 size)

-- the granules of a part, ascending
unfoldable pub part_granules : Layout → ℕ → ℕ → List ℕ
part_granules l tile part = map (λ number. first_granule l tile + number) (numbers_in_part part (tile_size l tile))

-- ---- the eras of a history

-- the first era, and those behind it
pub record Policy : Type 0 where
  pub first : Era
  pub later : List Era

-- of an era and those behind it, the last one that begins at a tile or before it
unfoldable pub era_in : Era → List Era → ℕ → Era
era_in e [] tile = e
era_in e (next ∷ later) tile = era_in (if nat_le next.tile tile then next else e) later tile

abbrev pub begins_at : ℕ → Era → Bool
begins_at tile e = e.tile == tile

-- the layout of eras: each tile goes by the last one that begins at it or before it
abbrev pub layout_by : Policy → Layout
layout_by p = record { exponents = λ tile. (era_in p.first p.later tile).k; algorithms = λ tile. (era_in p.first p.later tile).algs; begun = λ tile. filter (begins_at tile) p.later }

-- the tile of the last era
unfoldable pub last_tile : Era → List Era → ℕ
last_tile e [] = e.tile
last_tile e (next ∷ later) = last_tile next later

-- how many eras there may be besides the first
abbrev pub max_later : ℕ
max_later = 255

-- a change at a tile, whose first granule is named, is the next era: there are few so far, none begins behind it, and the granule is that of the tile
unfoldable pub is_next : Policy → Era → ℕ → Bool
is_next p e granule = nat_lt (length p.later) max_later && nat_le (last_tile p.first p.later) e.tile && (granule == first_granule (layout_by p) e.tile)

-- else it has no effect
abbrev pub offered : Policy → Era → ℕ → Policy
offered p e granule = if is_next p e granule then record { first = p.first; later = p.later ++ e ∷ [] } else p

abbrev pub with_item : Policy → Item → Policy
with_item p (items.Policy tile granule k algs) = offered p (record { tile = tile; k = k; algs = algs }) granule
with_item p item = p

-- the first era is that of the header
abbrev pub first_era : Header → Policy
first_era header = record { first = record { tile = 0; k = header.k; algs = header.algs }; later = [] }

-- the eras of a history: its policy items in file order, as far as each is the next era
unfoldable pub policy_of : History → Policy
policy_of h = fold with_item (first_era h.header) h.items

-- the era of a number
abbrev pub era_at : Policy → ℕ → Option Era
era_at p zero = Some p.first
era_at p (suc e) = slice_get p.later e

-- the layout of a history is that of its eras
unfoldable pub layout : History → Layout
layout h = layout_by (policy_of h)

-- ---- the eras of tiles

-- the eras but the first that begin at a tile
unfoldable pub turns : Layout → ℕ → List Era
turns l tile = l.begun tile

-- those that begin at one of the first n tiles
unfoldable pub sealed_eras : Layout → ℕ → List Era
sealed_eras l zero = []
sealed_eras l (suc n) = sealed_eras l n ++ turns l n

-- the number of a tile's era: so many have begun before or with it
unfoldable pub era_of : Layout → ℕ → ℕ
era_of l tile = length (sealed_eras l (suc tile))

abbrev pub is_none : List Era → Bool
is_none [] = true
is_none (e ∷ es) = false

-- the first tile of a tile's era
unfoldable pub era_start : Layout → ℕ → ℕ
era_start l zero = 0
era_start l (suc tile) = if is_none (turns l (suc tile)) then era_start l tile else suc tile

-- how many granules of its era lie before a tile
unfoldable pub leaf_start : Layout → ℕ → ℕ
leaf_start l zero = 0
leaf_start l (suc tile) = if is_none (turns l (suc tile)) then leaf_start l tile + tile_size l tile else 0

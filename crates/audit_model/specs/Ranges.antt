-- The tiles that an analysis examines.
use Rattle.std.specs.Prelude.{ℕ, zero, ◌==◌, Bool, true, List, filter, Option, Some, None}
use Rattle.std.specs.List.{list_all, range_with_len, sum_by}
use Rattle.history_model.specs.History.{History}
use Rattle.digest_model.specs.Layout.{Layout, layout, layout_by, first_era, era_of, tile_size}

-- a tile is of this era; each is, where none is named
abbrev pub is_of : Option ℕ → Layout → ℕ → Bool
is_of None l tile = true
is_of (Some era) l tile = era_of l tile == era

-- of n sealed tiles those of an era; all of them, where none is named
unfoldable pub range_of : Option ℕ → Layout → ℕ → List ℕ
range_of era l n = filter (is_of era l) (range_with_len 0 n)

-- how many granules they have
unfoldable pub granules_in : Option ℕ → Layout → ℕ → ℕ
granules_in era l n = sum_by (tile_size l) (range_of era l n)

-- each tile of the range has what is asked for; where none is sealed and no era is named, the first tile as the header alone places it
unfoldable pub range_has : (Layout → ℕ → Bool) → Option ℕ → History → ℕ → Bool
range_has has None s zero = has (layout_by (first_era s.header)) 0
range_has has era s n = list_all (has (layout s)) (range_of era (layout s) n)

-- What an analysis finds.
use Rattle.std.specs.Prelude.{ℕ, ◌+◌, ◌-◌, ◌*◌, ◌^◌, ◌<◌, ◌≤◌, ◌==◌, if◌then◌else◌, Bool, true, false, List, [], ◌∷◌, map, All, Contains, length, sum_by, Option, Some, None, IfSome}
use Rattle.std.specs.List.{range_with_len}
use Rattle.std.specs.List.Sorted.{IsStrictlyIncreasing}
use Rattle.digest_model.specs.Layout.{Layout, exponent, first_granule, tile_of, max_granules, max_later, sealed_eras}
use Rattle.audit_model.specs.Ranges.{range_of}
use Rattle.audit_model.specs.Tree.{digit_count}
use Rattle.a3d_forensics.specs.Trees.{checks_bound}

-- the tiles that an analysis is of: they lie so, so many are sealed, and those of an era are examined, or all
pub record Extent : Type 0 where
  pub layout : Layout
  pub tiles : ℕ
  pub era : Option ℕ

-- the tiles that are examined, ascending
abbrev pub range : Extent → List ℕ
range extent = range_of extent.era extent.layout extent.tiles

-- by the algorithms: where the region begins; the tiles that fail, and their targets; the altered granules, and how many nodes were asked
pub data Findings : Type 0 where
  Region : Option ℕ → Findings
  Targets : List (ℕ × ℕ) → Findings
  Leaves : List ℕ → ℕ → Findings

-- Nothing was filed, and this era was asked for; or of so many sealed tiles the header or an era is another one; or this was found of
-- these tiles.
pub data Analysis : Type 0 where
  Unsealed : Option ℕ → Analysis
  HeaderAltered : ℕ → Analysis
  Found : Extent → Findings → Analysis

-- how many tiles are sealed
abbrev pub sealed_tiles : Analysis → ℕ
sealed_tiles (Unsealed era) = 0
sealed_tiles (HeaderAltered n) = n
sealed_tiles (Found extent findings) = extent.tiles

-- the era whose tiles it is of: none is told of where the header is another one
abbrev pub era_named : Analysis → Option ℕ
era_named (Unsealed era) = era
era_named (HeaderAltered n) = None
era_named (Found extent findings) = extent.era

-- how many tiles it is of
abbrev pub range_tiles : Analysis → ℕ
range_tiles (Unsealed era) = 0
range_tiles (HeaderAltered n) = n
range_tiles (Found extent findings) = length (range extent)

-- the tiles that fail, ascending; by the tree, that of each granule found
abbrev pub bad_tiles : Extent → Findings → List ℕ
bad_tiles extent (Region None) = []
bad_tiles extent (Region (Some first)) = range_with_len first (extent.tiles - first)
bad_tiles extent (Targets targets) = map (λ t. t.0) targets
bad_tiles extent (Leaves granules checks) = map (tile_of extent.layout) granules

abbrev pub is_some_bad : List ℕ → Bool
is_some_bad [] = false
is_some_bad (tile ∷ tiles) = true

-- whether it is told that something is altered
abbrev pub is_altered : Analysis → Bool
is_altered (Unsealed era) = false
is_altered (HeaderAltered n) = true
is_altered (Found extent findings) = is_some_bad (bad_tiles extent findings)

-- of bytes that have no history of the id: nothing was filed, or the header is altered
abbrev pub IsWithoutStore : Analysis → Type 0
IsWithoutStore (Unsealed era) = Unit {0}
IsWithoutStore (HeaderAltered n) = Unit {0}
IsWithoutStore (Found extent findings) = ⊥

-- ---- what holds of them, whatever is told

-- tiles of the range that fail, each once, and targets of as many bits as the tile has
pub record AreTargets (extent : Extent) (targets : List (ℕ × ℕ)) : Type 0 where
  pub ascend : IsStrictlyIncreasing (map (λ t. t.0) targets)
  pub each : All (λ t. Contains (range extent) t.0 × (t.1 < 2 ^ exponent extent.layout t.0)) targets

-- granules of tiles of the range, each once; for them few nodes were asked
pub record AreLeaves (extent : Extent) (granules : List ℕ) (checks : ℕ) : Type 0 where
  pub ascend : IsStrictlyIncreasing granules
  pub within : All (λ g. Contains (range extent) (tile_of extent.layout g)) granules
  pub few : checks ≤ checks_bound extent.era extent.layout extent.tiles (length granules)

-- a region begins at a sealed tile
abbrev pub FitsFindings : Extent → Findings → Type 0
FitsFindings extent (Region first) = IfSome first (λ tile. tile < extent.tiles)
FitsFindings extent (Targets targets) = AreTargets extent targets
FitsFindings extent (Leaves granules checks) = AreLeaves extent granules checks

-- and a tile has at most 1,024 granules, the sealed ones end at most behind the last one, and few eras begin at one of them
pub record FitsUnder (extent : Extent) (findings : Findings) : Type 0 where
  pub short : (tile : ℕ) → exponent extent.layout tile ≤ 10
  pub within : first_granule extent.layout extent.tiles ≤ max_granules
  pub few : length (sealed_eras extent.layout extent.tiles) ≤ max_later
  pub each : FitsFindings extent findings

abbrev pub Fits : Analysis → Type 0
Fits (Unsealed era) = Unit {0}
Fits (HeaderAltered n) = Unit {0}
Fits (Found extent findings) = FitsUnder extent findings

-- ---- how many questions it takes at most

-- the search for the first bad tile asks two more than the number of tiles has digits; each tile of the range takes one, and one
-- that fails one more for each bit chain; the descent counts its own, which are few where the findings fit
abbrev pub asked_by : Extent → Findings → ℕ
asked_by extent (Region first) = if extent.tiles == 0 then 0 else digit_count extent.tiles + 2
asked_by extent (Targets targets) = length (range extent) + sum_by (λ t. exponent extent.layout t.0) targets
asked_by extent (Leaves granules checks) = checks

-- before it the header, each sealed era but the first, and the era behind them
abbrev pub asked_first : Layout → ℕ → ℕ
asked_first l n = 2 + length (sealed_eras l n)

-- and all, where the header or an era is another one of a file with so many eras
abbrev pub questions : (ℕ → ℕ) → Analysis → ℕ
questions eras (Unsealed era) = 0
questions eras (HeaderAltered n) = 2 + eras n
questions eras (Found extent findings) = asked_first extent.layout extent.tiles + asked_by extent findings

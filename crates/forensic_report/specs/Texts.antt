-- The text of a report.
use Rattle.std.specs.Prelude.{ℕ, ◌+◌, ◌-◌, ◌==◌, if◌then◌else◌, min, Bool, List, [], ◌∷◌, ◌++◌, map, fold, codes, Option, Some, None}
use Rattle.std.specs.List.{flat_map, list_any, range_with_len}
use Rattle.std.specs.Option.{unwrap_or}
use Rattle.std.specs.Int.{bit_at}
use Rattle.notary_link.specs.declared.mark.Mark.{Mark}
use Rattle.notary_link.specs.Batches.{Batch}
use Rattle.notary_link.specs.Notary.{Lists}
use Rattle.digest_model.specs.Layout.{Layout, exponent, first_granule, end_granule, tile_of}
use Rattle.digest_model.specs.Roots.{down_from}
use Rattle.audit_model.specs.Spans.{changed_from}
use Rattle.audit_model.specs.Tiled.{candidates_of, exactly_of}
use Rattle.corruption_diagram.specs.declared.span.Span.{Span}
use Rattle.corruption_diagram.specs.Spans.{when_changed, when_first_changed}
use Rattle.corruption_diagram.specs.Diagram.{diagram}
use Rattle.byte_grammar.specs.Numbered.{numbered}
use Rattle.forensic_report.specs.declared.algorithm.Algorithm.{Algorithm}
use Rattle.forensic_report.specs.declared.algorithm.Algorithm.TheVariants.{Mono, Tiled, TiledExactly, A3d}
use Rattle.forensic_report.specs.Analysis.{Extent, Findings, Analysis, Region, Targets, Leaves, Unsealed, HeaderAltered, Found, era_named, range_tiles, bad_tiles, is_altered}

-- what a notary has under the id, and the second of the analysis
pub record Kept : Type 0 where
  pub batches : List Batch
  pub marks : List Mark
  pub now : ℕ

abbrev pub kept_of : Lists → ℕ → ℕ → Kept
kept_of lists id now = record { batches = lists.batches id; marks = lists.marks id; now = now }

abbrev pub line : List ℕ → List ℕ
line words = words ++ 10 ∷ []

-- ---- the first line

abbrev pub algorithm_word : Algorithm → List ℕ
algorithm_word Mono = codes "mono"
algorithm_word Tiled = codes "tiled"
algorithm_word (TiledExactly kappa) = codes "tiled"
algorithm_word A3d = codes "a3d"

abbrev pub verdict_words : Analysis → List ℕ
verdict_words (Unsealed era) = codes "unsealed"
verdict_words (HeaderAltered n) = codes "header altered"
verdict_words (Found extent findings) = if is_altered (Found extent findings) then codes "altered" else codes "clean"

-- an era, where one is named
abbrev pub era_words : Option ℕ → List ℕ
era_words None = []
era_words (Some era) = numbered (codes " era ") era

-- of so many tiles of an era, or of all, with a verdict
abbrev pub head_words : Algorithm → ℕ → Option ℕ → ℕ → List ℕ → List ℕ
head_words algorithm id era n verdict =
    line (codes "report " ++ algorithm_word algorithm ++ numbered (codes " id ") id ++ era_words era ++ numbered (codes " tiles ") n ++ codes " " ++ verdict)

unfoldable pub head_line : Algorithm → ℕ → Analysis → List ℕ
head_line algorithm id a = head_words algorithm id (era_named a) (range_tiles a) (verdict_words a)

-- ---- spans

abbrev pub when_text : Span → List ℕ
when_text span = numbered (codes " when ") span.from ++ numbered (codes " to ") span.to

abbrev pub span_of : Kept → ℕ → Span
span_of kept tile = when_changed kept.batches kept.marks tile kept.now

abbrev pub first_span_of : Kept → ℕ → Span
first_span_of kept tile = when_first_changed kept.batches kept.marks tile kept.now

abbrev pub least : List ℕ → ℕ
least [] = 0
least (n ∷ ns) = fold min n ns

-- the tiles of a region: from the first one to the last of n
abbrev pub region_tiles : ℕ → ℕ → List ℕ
region_tiles first n = range_with_len first (n - first)

-- from the least moment from which a tile of the region was changed
abbrev pub region_span : Kept → ℕ → ℕ → Span
region_span kept first n = record { from = least (map (changed_from kept.batches kept.marks) (region_tiles first n)); to = kept.now }

-- ---- what was found

abbrev pub region_line_in : Layout → ℕ → ℕ → Span → List ℕ
region_line_in l n first span =
    line (numbered (codes "tiles ") first ++ numbered (codes " to ") (n - 1)
    ++ numbered (codes " granules ") (first_granule l first) ++ numbered (codes " to ") (end_granule l (n - 1) - 1) ++ when_text span)

unfoldable pub region_line : Layout → ℕ → Kept → ℕ → List ℕ
region_line l n kept first = region_line_in l n first (region_span kept first n)

-- the digits of a number of k bits, the highest first
abbrev pub bits_text : ℕ → ℕ → List ℕ
bits_text k target = if k == 0 then codes "-" else map (λ bit. 48 + bit_at target bit) (down_from k)

-- granules, each behind a space
abbrev pub each_text : List ℕ → List ℕ
each_text granules = flat_map (numbered (codes " ")) granules

-- and a word where there are none
abbrev pub list_text : List ℕ → List ℕ
list_text [] = codes " none"
list_text (g ∷ granules) = each_text (g ∷ granules)

-- the candidates by a target, as numbers within the tile
abbrev pub candidates_by : Algorithm → ℕ → ℕ → List ℕ
candidates_by (TiledExactly kappa) target k = exactly_of target k kappa
candidates_by algorithm target k = candidates_of target k

-- the granules that they are
abbrev pub granules_by : Algorithm → Layout → ℕ → ℕ → List ℕ
granules_by algorithm l tile target = map (λ number. first_granule l tile + number) (candidates_by algorithm target (exponent l tile))

abbrev pub target_line_in : Algorithm → Layout → ℕ × ℕ → Span → List ℕ
target_line_in algorithm l t span =
    line (numbered (codes "tile ") t.0 ++ codes " target " ++ bits_text (exponent l t.0) t.1
    ++ codes " candidates" ++ list_text (granules_by algorithm l t.0 t.1) ++ when_text span)

unfoldable pub target_line : Algorithm → Layout → Kept → ℕ × ℕ → List ℕ
target_line algorithm l kept t = target_line_in algorithm l t (span_of kept t.0)

abbrev pub granule_line_in : ℕ → Span → List ℕ
granule_line_in g span = line (numbered (codes "granule ") g ++ when_text span)

unfoldable pub granule_line : Layout → Kept → ℕ → List ℕ
granule_line l kept g = granule_line_in g (span_of kept (tile_of l g))

abbrev pub checks_line : ℕ → List ℕ
checks_line checks = line (numbered (codes "checks ") checks)

abbrev pub findings_text : Algorithm → Extent → Kept → Findings → List ℕ
findings_text algorithm extent kept (Region None) = []
findings_text algorithm extent kept (Region (Some first)) = region_line extent.layout extent.tiles kept first
findings_text algorithm extent kept (Targets targets) = flat_map (target_line algorithm extent.layout kept) targets
findings_text algorithm extent kept (Leaves granules checks) = flat_map (granule_line extent.layout kept) granules ++ checks_line checks

-- ---- the end

abbrev pub first_line_in : ℕ → Span → List ℕ
first_line_in tile span = line (numbered (codes "first change in tile ") tile ++ when_text span)

unfoldable pub first_line : Kept → ℕ → List ℕ
first_line kept tile = first_line_in tile (first_span_of kept tile)

-- whether each of n tiles is among the bad ones
abbrev pub bad_row : List ℕ → ℕ → List Bool
bad_row bad n = map (λ tile. list_any (λ b. b == tile) bad) (range_with_len 0 n)

unfoldable pub diagram_text : Kept → ℕ → List ℕ → List ℕ
diagram_text kept n bad = unwrap_or (diagram kept.batches kept.marks n (bad_row bad n) kept.now) (codes "diagram left out\n")

-- ---- the whole

-- behind the first line, where tiles are bad; the diagram is over all sealed tiles
abbrev pub altered_text : Algorithm → Extent → Kept → Findings → List ℕ → List ℕ
altered_text algorithm extent kept findings [] = []
altered_text algorithm extent kept findings (tile ∷ tiles) =
    findings_text algorithm extent kept findings ++ first_line kept tile ++ diagram_text kept extent.tiles (tile ∷ tiles)

abbrev pub every_granule : ℕ → List ℕ
every_granule n = if n == 0 then [] else line (numbered (codes "every granule of tiles 0 to ") (n - 1))

abbrev pub body_text : Algorithm → Kept → Analysis → List ℕ
body_text algorithm kept (Unsealed era) = []
body_text algorithm kept (HeaderAltered n) = every_granule n
body_text algorithm kept (Found extent findings) = altered_text algorithm extent kept findings (bad_tiles extent findings)

-- the report of what an analysis found under an id, by what a notary has of it
unfoldable pub report_text : Algorithm → ℕ → Kept → Analysis → List ℕ
report_text algorithm id kept a = head_line algorithm id a ++ body_text algorithm kept a

-- Worked reports.
use Rattle.std.specs.Prelude.{◌≡◌, ℕ, ◌+◌, List, [], ◌∷◌, map, codes, Some, None}
use Rattle.std.specs.List.{range_with_len}
use Rattle.notary_link.specs.declared.mark.Mark.{Mark}
use Rattle.notary_link.specs.declared.mark.Outcome.TheVariants as outcomes
use Rattle.audit_model.specs.Examples.{filed_at, marked}
use Rattle.digest_model.specs.Layout.{layout_by}
use Rattle.forensic_report.specs.declared.algorithm.Algorithm.TheVariants.{Mono, Tiled, TiledExactly, A3d}
use Rattle.forensic_report.specs.Analysis.{Extent, Region, Targets, Leaves, Unsealed, HeaderAltered, Found}
use Rattle.forensic_report.specs.Texts.{Kept, report_text}

-- so many tiles of 2 to this power granules
abbrev pub tiles_of : ℕ → ℕ → Extent
tiles_of k n = record { layout = layout_by (record { first = record { tile = 0; k = k; algs = 3 }; later = [] }); tiles = n; era = None }

-- of three tiles those of era 1: behind a first tile of four granules, tiles have two each, and the tree
abbrev pub second_era : Extent
second_era = record {
  layout = layout_by (record { first = record { tile = 0; k = 2; algs = 1 }; later = record { tile = 1; k = 1; algs = 2 } ∷ [] });
  tiles = 3;
  era = Some 1;
}

-- an era that begins behind the last sealed tile
abbrev pub later_era : Extent
later_era = record second_era { tiles = 1 }

-- the header and n tiles filed at one moment
abbrev pub kept : ℕ → ℕ → List Mark → ℕ → Kept
kept n moment marks now = record { batches = map (λ i. filed_at moment) (range_with_len 0 (1 + n)); marks = marks; now = now }

pub record WorkedReports : Type 0 where
  pub unsealed : report_text A3d 7 (kept 0 0 [] 0) (Unsealed None) ≡ codes "report a3d id 7 tiles 0 unsealed\n"
  pub unsealed_era : report_text Tiled 7 (kept 0 0 [] 0) (Unsealed (Some 2)) ≡ codes "report tiled id 7 era 2 tiles 0 unsealed\n"
  pub clean : report_text A3d 7 (kept 1 480 [] 500) (Found (tiles_of 3 1) (Leaves [] 1)) ≡ codes "report a3d id 7 tiles 1 clean\n"
  pub other_header : report_text Mono 7 (kept 3 180 [] 180) (HeaderAltered 3) ≡ codes "report mono id 7 tiles 3 header altered\nevery granule of tiles 0 to 2\n"
  pub tiled : report_text Tiled 7 (kept 1 480 [] 500) (Found (tiles_of 3 1) (Targets ((0, 5) ∷ []))) ≡ codes "report tiled id 7 tiles 1 altered\ntile 0 target 101 candidates 5 7 when 480 to 500\nfirst change in tile 0 when 480 to 500\ndiagram\n         480 N\n         500 X\n"
  pub exactly_one : report_text (TiledExactly 1) 7 (kept 1 480 [] 500) (Found (tiles_of 3 1) (Targets ((0, 1) ∷ []))) ≡ codes "report tiled id 7 tiles 1 altered\ntile 0 target 001 candidates 1 when 480 to 500\nfirst change in tile 0 when 480 to 500\ndiagram\n         480 N\n         500 X\n"
  pub exactly_two : report_text (TiledExactly 2) 7 (kept 1 480 [] 500) (Found (tiles_of 3 1) (Targets ((0, 7) ∷ []))) ≡ codes "report tiled id 7 tiles 1 altered\ntile 0 target 111 candidates none when 480 to 500\nfirst change in tile 0 when 480 to 500\ndiagram\n         480 N\n         500 X\n"
  pub tree : report_text A3d 7 (kept 3 720 [] 800) (Found (tiles_of 2 3) (Leaves (5 ∷ 9 ∷ []) 12)) ≡ codes "report a3d id 7 tiles 3 altered\ngranule 5 when 720 to 800\ngranule 9 when 720 to 800\nchecks 12\nfirst change in tile 1 when 720 to 800\ndiagram\n         720 N..\n         720 .N.\n         720 ..N\n         800 .XX\n"
  pub region : report_text Mono 7 (kept 8 480 (marked 500 8 (outcomes.Altered 5) ∷ []) 510) (Found (tiles_of 0 8) (Region (Some 5))) ≡ codes "report mono id 7 tiles 8 altered\ntiles 5 to 7 granules 5 to 7 when 480 to 510\nfirst change in tile 5 when 480 to 500\ndiagram\n         480 N.......\n         480 .N......\n         480 ..N.....\n         480 ...N....\n         480 ....N...\n         480 .....N..\n         480 ......N.\n         480 .......N\n         500 vvvvvx??\n         510 .....XXX\n"
  pub one_granule : report_text Tiled 7 (kept 2 120 (marked 130 2 outcomes.Clean ∷ marked 125 2 outcomes.HeaderAltered ∷ []) 140) (Found (tiles_of 0 2) (Targets ((1, 0) ∷ []))) ≡ codes "report tiled id 7 tiles 2 altered\ntile 1 target - candidates 1 when 130 to 140\nfirst change in tile 1 when 130 to 140\ndiagram\n         120 N.\n         120 .N\n         125 HH\n         130 vv\n         140 .X\n"
  pub of_an_era : report_text A3d 7 (record { batches = map filed_at (240 ∷ 240 ∷ 480 ∷ 480 ∷ []); marks = marked 480 3 outcomes.Clean ∷ []; now = 500 }) (Found second_era (Leaves (5 ∷ []) 5)) ≡ codes "report a3d id 7 era 1 tiles 2 altered\ngranule 5 when 480 to 500\nchecks 5\nfirst change in tile 1 when 480 to 500\ndiagram\n         240 N..\n         480 .N.\n         480 ..N\n         480 vvv\n         500 .X.\n"
  pub of_no_tile : report_text A3d 7 (kept 1 240 [] 300) (Found later_era (Leaves [] 0)) ≡ codes "report a3d id 7 era 1 tiles 0 clean\n"
  pub left_out : report_text A3d 7 (kept 65 9 [] 10) (Found (tiles_of 0 65) (Leaves (64 ∷ []) 3)) ≡ codes "report a3d id 7 tiles 65 altered\ngranule 64 when 9 to 10\nchecks 3\nfirst change in tile 64 when 9 to 10\ndiagram left out\n"

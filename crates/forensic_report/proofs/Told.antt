-- What is told where the tiles have the chains.
use Rattle.std.proofs.Common.{◌≡◌, ℕ, Bool, true, List, map, Option, Err, ap}
use Rattle.std.specs.Prelude.{if◌then◌else◌}
use Rattle.std.specs.List.{Contains, filter_map}
use Rattle.history_model.specs.History.{History}
use Rattle.digest_model.specs.Layout.{layout, exponent}
use Rattle.notary_link.specs.declared.fail.AskFail.{AskFail}
use Rattle.notary_link.specs.declared.fail.AskFail.TheVariants.{NotSealedSo}
use Rattle.notary_link.specs.Batches.{Batch}
use Rattle.audit_model.specs.Asked.{first_stop, unless_stopped}
use Rattle.audit_model.specs.Ranges.{range_of}
use Rattle.tiled_forensics.specs.Target.{parts, target_of, tile_told}
use Rattle.a3d_forensics.specs.declared.found.A3dFound.{A3dFound}
use Rattle.a3d_forensics.specs.Descent.{tree_found, tree_checks, tree_stop, tree_told}
use Rattle.forensic_report.specs.declared.algorithm.Algorithm.TheVariants.{Tiled, A3d}
use Rattle.forensic_report.specs.Analysis.{Findings, Leaves}
use Rattle.forensic_report.specs.Finding.{stop_told, failing, tile_has, has_chains}
use Rattle.a3d_forensics.proofs.Ranges.{each_has}

abbrev pub leaves : A3dFound → Findings
leaves f = Leaves f.granules f.checks

module _ (batches : List Batch) (s : History) where
  -- what stops the analysis at a tile, and what it lists of one; both for some tiles
  abbrev pub stop_at_tile : ℕ → Option AskFail
  stop_at_tile tile = stop_told (tile_told batches s tile)

  abbrev pub failing_tile : ℕ → Option (ℕ × ℕ)
  failing_tile tile = failing tile (tile_told batches s tile)

  abbrev pub stop_of_tiles : List ℕ → Option AskFail
  stop_of_tiles tiles = first_stop (map stop_at_tile tiles)

  abbrev pub failing_tiles : List ℕ → List (ℕ × ℕ)
  failing_tiles tiles = filter_map failing_tile tiles

  module _ (era : Option ℕ) (n : ℕ) where
    pub tile_is : (tile : ℕ) → has_chains Tiled era s n ≡ true → Contains (range_of era (layout s) n) tile → tile_told batches s tile ≡ target_of (parts batches s tile) (exponent (layout s) tile) tile
    tile_is tile has among = ap (λ (b : Bool). if b then target_of (parts batches s tile) (exponent (layout s) tile) tile else Err NotSealedSo) (each_has (tile_has Tiled) era s n tile has among)

    -- what the descent finds
    abbrev pub found_in_tree : A3dFound
    found_in_tree = record { granules = tree_found batches s era n; checks = tree_checks batches s era n }

    pub tree_is : has_chains A3d era s n ≡ true → tree_told batches s era n ≡ unless_stopped (tree_stop batches s era n) found_in_tree
    tree_is has = ap (λ (b : Bool). if b then unless_stopped (tree_stop batches s era n) found_in_tree else Err NotSealedSo) has

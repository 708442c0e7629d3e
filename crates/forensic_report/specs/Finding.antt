-- What an analysis finds by the answers for what is stored.
use Rattle.std.specs.Prelude.{◌≡◌, ◌≢◌, ◌⊎◌, ◌<◌, ℕ, ◌-◌, nat_le, nat_lt, Bool, true, false, List, [], ◌∷◌, length, map, Option, Some, None, Result, Ok, Err}
use Rattle.std.specs.List.{filter_map}
use Rattle.history_model.specs.declared.stored.Stored.{Stored}
use Rattle.history_model.specs.History.{History}
use Rattle.digest_model.specs.Layout.{Layout, layout, policy_of, first_granule, max_granules, has_tile_chains, has_tree}
use Rattle.notary_link.specs.declared.answer.Answer.{Answer}
use Rattle.notary_link.specs.declared.answer.Answer.TheVariants.{Same, Differs, Absent}
use Rattle.notary_link.specs.declared.name.Name.TheVariants as names
use Rattle.notary_link.specs.declared.fail.AskFail.{AskFail}
use Rattle.notary_link.specs.Batches.{Batch}
use Rattle.audit_model.specs.Mono.{BeginsRegion}
use Rattle.audit_model.specs.Notary.{header_answer, cums}
use Rattle.audit_model.specs.Altered.{history_with}
use Rattle.audit_model.specs.Asked.{first_stop, unless_stopped}
use Rattle.audit_model.specs.Ranges.{range_of, range_has}
use Rattle.tiled_forensics.specs.Target.{tile_told}
use Rattle.a3d_forensics.specs.declared.found.A3dFound.{A3dFound}
use Rattle.a3d_forensics.specs.Descent.{tree_told}
use Rattle.policy_eras.specs.Policy.{first_past, count_of}
use Rattle.forensic_report.specs.declared.algorithm.Algorithm.{Algorithm}
use Rattle.forensic_report.specs.declared.algorithm.Algorithm.TheVariants.{Mono, Tiled, TiledExactly, A3d}
use Rattle.forensic_report.specs.declared.fail.AnalyseFail.{AnalyseFail}
use Rattle.forensic_report.specs.declared.fail.AnalyseFail.TheVariants as fails
use Rattle.forensic_report.specs.Fails.{of_asking}
use Rattle.forensic_report.specs.Analysis.{Extent, Findings, Analysis, Region, Targets, Leaves, Unsealed, HeaderAltered, Found, is_altered}

-- ---- by the algorithm, of n sealed tiles under the header and the eras that were filed

-- the tiles that are examined, of those of a history of which n are sealed
abbrev pub extent_of : Option ℕ → History → ℕ → Extent
extent_of era s n = record { layout = layout s; tiles = n; era = era }

-- where the region begins, or the seal of a tile is missing
abbrev pub IsRegion : (ℕ → Answer) → Extent → Result Analysis AnalyseFail → Type 0
IsRegion chain extent (Ok (Found found (Region region))) = (found ≡ extent) × BeginsRegion chain extent.tiles region
IsRegion chain extent (Err (fails.SealMissing name)) =
    (tile : ℕ) × (tile < extent.tiles) × (name ≡ names.Cum tile) × (chain tile ≡ Absent) × (chain (extent.tiles - 1) ≢ Same)
IsRegion chain extent found = ⊥

-- what stops the analysis at a tile
abbrev pub stop_told : {A : Type 0} → Result A AskFail → Option AskFail
stop_told (Ok told) = None
stop_told (Err fail) = Some fail

-- a tile that fails, with its target
abbrev pub failing : ℕ → Result (Option ℕ) AskFail → Option (ℕ × ℕ)
failing tile (Ok (Some target)) = Some (tile, target)
failing tile told = None

abbrev pub analysis_by : {A : Type 0} → (A → Findings) → Extent → Result A AskFail → Result Analysis AnalyseFail
analysis_by findings extent (Ok told) = Ok (Found extent (findings told))
analysis_by findings extent (Err fail) = Err (of_asking fail)

-- of these tiles those that fail, one after another, unless one of them stops the analysis
abbrev pub targets_told : List Batch → History → List ℕ → Result (List (ℕ × ℕ)) AskFail
targets_told batches s tiles =
    unless_stopped (first_stop (map (λ tile. stop_told (tile_told batches s tile)) tiles))
    (filter_map (λ tile. failing tile (tile_told batches s tile)) tiles)

-- the tiles of the range that fail, with their targets
abbrev pub IsTargets : Option ℕ → List Batch → ℕ → History → Result Analysis AnalyseFail → Type 0
IsTargets era batches n s found = found ≡ analysis_by Targets (extent_of era s n) (targets_told batches s (range_of era (layout s) n))

-- the chain over all tiles is that of no era
abbrev pub IsFoundBy : Algorithm → Option ℕ → List Batch → ℕ → History → Result Analysis AnalyseFail → Type 0
IsFoundBy Mono era batches n s found = IsRegion (cums batches s) (extent_of None s n) found
IsFoundBy Tiled era batches n s found = IsTargets era batches n s found
IsFoundBy (TiledExactly kappa) era batches n s found = IsTargets era batches n s found
IsFoundBy A3d era batches n s found = found ≡ analysis_by (λ (f : A3dFound). Leaves f.granules f.checks) (extent_of era s n) (tree_told batches s era n)

-- ---- before the algorithm is run

-- a history has an era of this number, where one is named
abbrev pub has_era : Option ℕ → History → Bool
has_era None s = true
has_era (Some era) s = nat_lt era (count_of (policy_of s))

-- a tile has the chains that the algorithm asks for
abbrev pub tile_has : Algorithm → Layout → ℕ → Bool
tile_has Mono l tile = true
tile_has Tiled l tile = has_tile_chains l tile
tile_has (TiledExactly kappa) l tile = has_tile_chains l tile
tile_has A3d l tile = has_tree l tile

-- so does each tile of the range; the header does, where no tile is sealed and no era is named
abbrev pub has_chains : Algorithm → Option ℕ → History → ℕ → Bool
has_chains algorithm era s n = range_has (λ l tile. tile_has algorithm l tile) era s n

-- tiles that end behind the last granule were never filed by this program
abbrev pub IsFoundWithin : Bool → Algorithm → Option ℕ → List Batch → ℕ → History → Result Analysis AnalyseFail → Type 0
IsFoundWithin true algorithm era batches n s found = IsFoundBy algorithm era batches n s found
IsFoundWithin false algorithm era batches n s found = found ≡ Err (fails.SealMissing (names.Cum (first_past (layout s))))

abbrev pub IsFoundWith : Bool → Algorithm → Option ℕ → List Batch → ℕ → History → Result Analysis AnalyseFail → Type 0
IsFoundWith true algorithm era batches n s found =
    IsFoundWithin (nat_le (first_granule (layout s) n) max_granules) algorithm era batches n s found
IsFoundWith false algorithm era batches n s found = found ≡ Err fails.NotSealedSo

abbrev pub IsFoundIn : Bool → Algorithm → Option ℕ → List Batch → ℕ → History → Result Analysis AnalyseFail → Type 0
IsFoundIn true algorithm era batches n s found = IsFoundWith (has_chains algorithm era s n) algorithm era batches n s found
IsFoundIn false algorithm era batches n s found = found ≡ Err fails.NoEra

-- by the answer for the header and the eras
abbrev pub IsFoundAt : Answer → Algorithm → Option ℕ → List Batch → ℕ → History → Result Analysis AnalyseFail → Type 0
IsFoundAt Same algorithm era batches n s found = IsFoundIn (has_era era s) algorithm era batches n s found
IsFoundAt Differs algorithm era batches n s found = found ≡ Ok (HeaderAltered n)
IsFoundAt Absent algorithm era batches n s found = found ≡ Err (fails.SealMissing names.Header)

-- with n sealed tiles; where there is no such history, its header is altered
abbrev pub IsFoundOf : Algorithm → Option ℕ → List Batch → ℕ → Option History → Result Analysis AnalyseFail → Type 0
IsFoundOf algorithm era batches n None found = found ≡ Ok (HeaderAltered n)
IsFoundOf algorithm era batches n (Some s) found = IsFoundAt (header_answer batches s n) algorithm era batches n s found

-- What these batches, the header's and one for each sealed tile, show of a history, or of bytes that have none of it.
abbrev pub IsAnalysisIn : Algorithm → Option ℕ → List Batch → Option History → Result Analysis AnalyseFail → Type 0
IsAnalysisIn algorithm era [] s found = found ≡ Ok (Unsealed era)
IsAnalysisIn algorithm era (batch ∷ batches) s found = IsFoundOf algorithm era (batch ∷ batches) (length batches) s found

-- what they show of what a file stores
abbrev pub IsAnalysis : Algorithm → Option ℕ → ℕ → List Batch → Stored → Result Analysis AnalyseFail → Type 0
IsAnalysis algorithm era id batches s found = IsAnalysisIn algorithm era batches (history_with id s) found

-- ---- whatever is told

-- a device failed, or memory was wanting
abbrev pub IsGivingUp : AnalyseFail → Type 0
IsGivingUp fails.DiskFault = Unit {0}
IsGivingUp fails.NotaryFault = Unit {0}
IsGivingUp fails.NoMemory = Unit {0}
IsGivingUp fail = ⊥

-- an algorithm is refused by no other cause, nor where no era is named by the want of one
abbrev pub IsOfAnalysis : Algorithm → Option ℕ → AnalyseFail → Type 0
IsOfAnalysis algorithm era fails.DiskFault = Unit {0}
IsOfAnalysis algorithm era fails.NotaryFault = Unit {0}
IsOfAnalysis algorithm era fails.NoMemory = Unit {0}
IsOfAnalysis algorithm era (fails.SealMissing names.Header) = Unit {0}
IsOfAnalysis algorithm era (fails.SealMissing (names.Cum tile)) = Unit {0}
IsOfAnalysis Tiled era (fails.SealMissing (names.Tile tile part)) = Unit {0}
IsOfAnalysis (TiledExactly kappa) era (fails.SealMissing (names.Tile tile part)) = Unit {0}
IsOfAnalysis A3d era (fails.SealMissing (names.Node level index)) = Unit {0}
IsOfAnalysis A3d era (fails.SealMissing (names.EraNode number level index)) = Unit {0}
IsOfAnalysis algorithm (Some era) fails.NoEra = Unit {0}
IsOfAnalysis Tiled era fails.NotSealedSo = Unit {0}
IsOfAnalysis (TiledExactly kappa) era fails.NotSealedSo = Unit {0}
IsOfAnalysis A3d era fails.NotSealedSo = Unit {0}
IsOfAnalysis A3d era (fails.NotaryInconsistent number level index) = Unit {0}
IsOfAnalysis algorithm era fail = ⊥

-- an analysis that tells of no alteration, or that there is none by this algorithm, or no such era
abbrev pub IsSoundAnalysis : Result Analysis AnalyseFail → Type 0
IsSoundAnalysis found =
    ((a : Analysis) × (found ≡ Ok a) × (is_altered a ≡ false)) ⊎ ((found ≡ Err fails.NotSealedSo) ⊎ (found ≡ Err fails.NoEra))

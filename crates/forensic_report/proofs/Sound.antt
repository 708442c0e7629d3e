-- What a sound store is answered.
use Rattle.std.proofs.Common.{◌≡◌, ℕ, zero, suc, ◌<◌, true, false, List, [], ◌∷◌, length, Option, Some, None, Result, Ok, Err, refl, sym, ap, subst, ◌∙◌, inl, inr, arith}
use Rattle.std.specs.List.{Contains}
use Rattle.history_model.specs.Stored.{stored}
use Rattle.history_model.specs.History.{History}
use Rattle.history_model.specs.declared.stored.Stored.{Stored}
use Rattle.digest_model.specs.Layout.{layout, exponent, first_granule, whole}
use Rattle.audit_model.specs.Ranges.{range_of}
use Rattle.notary_link.specs.declared.answer.Answer.{Answer}
use Rattle.notary_link.specs.declared.answer.Answer.TheVariants.{Same, Differs, Absent}
use Rattle.notary_link.specs.declared.name.Name.TheVariants as names
use Rattle.notary_link.specs.Batches.{Batch}
use Rattle.notary_link.specs.declared.name.Name.{Name}
use Rattle.audit_model.specs.Notary.{NotaryOf, answers, header_answer, cums}
use Rattle.audit_model.specs.Mono.{BeginsRegion}
use Rattle.audit_model.specs.Altered.{history_in}
use Rattle.audit_model.specs.Sound.{HoldsNotarized}
use Rattle.audit_model.proofs.Compare.{own_same, counted}
use Rattle.audit_model.proofs.Planned.{cum_planned, part_planned}
use Rattle.audit_model.specs.Names.{planned}
use Rattle.tiled_forensics.specs.Target.{tile_told, target_by, parts}
use Rattle.a3d_forensics.specs.Descent.{tree_checks, tree_told}
use Rattle.a3d_forensics.proofs.Notarized.{none_found, none_stops}
use Rattle.forensic_report.specs.declared.algorithm.Algorithm.{Algorithm}
use Rattle.forensic_report.specs.declared.algorithm.Algorithm.TheVariants.{Mono, Tiled, TiledExactly, A3d}
use Rattle.forensic_report.specs.declared.fail.AnalyseFail.{AnalyseFail}
use Rattle.forensic_report.specs.declared.fail.AnalyseFail.TheVariants as fails
use Rattle.forensic_report.specs.Analysis.{Extent, Analysis, Region, Targets, Leaves, Unsealed, HeaderAltered, Found, is_altered}
use Rattle.forensic_report.specs.Finding.{extent_of, tile_has, IsRegion, stop_told, failing, analysis_by, targets_told, IsFoundBy, IsFoundAt, has_chains, IsAnalysisIn, IsAnalysis, IsSoundAnalysis}
use Rattle.forensic_report.specs.Laws.{SoundIsUnaltered}
use Rattle.a3d_forensics.proofs.Ranges.{in_range_of, each_has}
use Rattle.audit_model.proofs.Stops.{no_stop}
use Rattle.forensic_report.proofs.Lists.{none_mapped}
use Rattle.forensic_report.proofs.Told.{leaves, stop_at_tile, failing_tile, tile_is, tree_is}
use Rattle.forensic_report.proofs.Filed.{own_header}
use Rattle.forensic_report.proofs.Ways.{Way, unfiled, refused, eraless, chainless, past, asked, not_past, by_answer, WayIn, other, under, way_of}

-- this is told, of which nothing is altered
told : (found : Result Analysis AnalyseFail) (a : Analysis) → found ≡ Ok a → is_altered a ≡ false → IsSoundAnalysis found
told found a is none = inl (a, is, none)

-- ---- the chain

no_region : (chain : ℕ → Answer) (n first : ℕ) → ((tile : ℕ) → tile < n → chain tile ≡ Same) → BeginsRegion chain n (Some first) → ⊥
no_region chain zero first same is = absurd cc
no_region chain (suc last) first same is = let s = same last (omega arith) in let d = is.0 in absurd cc

region_none : (chain : ℕ → Answer) (extent : Extent) → ((tile : ℕ) → tile < extent.tiles → chain tile ≡ Same) → (found : Result Analysis AnalyseFail) → IsRegion chain extent found → IsSoundAnalysis found
region_none chain extent same (Ok (Found found (Region None))) is = inl (Found found (Region None), refl, refl)
region_none chain extent same (Ok (Found found (Region (Some first)))) is = absurd (no_region chain extent.tiles first same is.1)
region_none chain extent same (Ok (Found found (Targets targets))) is = absurd is
region_none chain extent same (Ok (Found found (Leaves granules checks))) is = absurd is
region_none chain extent same (Ok (Unsealed era)) is = absurd is
region_none chain extent same (Ok (HeaderAltered tiles)) is = absurd is
region_none chain extent same (Err (fails.SealMissing name)) is = let s = same is.0 is.1 in let a = is.3 in absurd cc
region_none chain extent same (Err fails.DiskFault) is = absurd is
region_none chain extent same (Err fails.NotaryFault) is = absurd is
region_none chain extent same (Err fails.NoEra) is = absurd is
region_none chain extent same (Err fails.NotSealedSo) is = absurd is
region_none chain extent same (Err (fails.NotaryInconsistent era level index)) is = absurd is
region_none chain extent same (Err fails.NoMemory) is = absurd is

-- ---- by the algorithm

module _ (era : Option ℕ) (batches : List Batch) (id n : ℕ) (h : History) (filed : NotaryOf batches id h n) where
  abbrev tiles : List ℕ
  tiles = range_of era (layout h) n

  same : (name : Name) → Contains (planned (layout h) n) name → answers batches h name ≡ Same
  same name is = own_same batches id h n name filed is

  tile_same : has_chains Tiled era h n ≡ true → (tile : ℕ) → Contains tiles tile → tile_told batches h tile ≡ Ok None
  tile_same has tile among =
      tile_is batches h era n tile has among
      ∙ ap (λ (a : Answer). target_by a (parts batches h tile) (exponent (layout h) tile) tile)
      (same (names.Tile tile whole) (part_planned (layout h) n tile whole (each_has (tile_has Tiled) era h n tile has among) (in_range_of (layout h) era n tile among) (inl refl)))

  tiled_same : has_chains Tiled era h n ≡ true → targets_told batches h (range_of era (layout h) n) ≡ Ok []
  tiled_same has =
      let stops = no_stop (stop_at_tile batches h) tiles (λ tile among. ap stop_told (tile_same has tile among)) in
      let none = none_mapped (failing_tile batches h) tiles (λ tile among. ap (failing tile) (tile_same has tile among)) in
      rw (stops, none) refl

  tree_same : has_chains A3d era h n ≡ true → tree_told batches h era n ≡ Ok (record { granules = []; checks = tree_checks batches h era n })
  tree_same has =
      let none = none_found batches id n h era filed has in
      let stops = none_stops batches id n h era filed has in
      tree_is batches h era n has ∙ (rw (stops, none) refl)

  tiled_found : (found : Result Analysis AnalyseFail) → has_chains Tiled era h n ≡ true → found ≡ analysis_by Targets (extent_of era h n) (targets_told batches h (range_of era (layout h) n)) → IsSoundAnalysis found
  tiled_found found has is = told found (Found (extent_of era h n) (Targets [])) (is ∙ ap (analysis_by Targets (extent_of era h n)) (tiled_same has)) refl

  by_algorithm : (algorithm : Algorithm) (found : Result Analysis AnalyseFail) → has_chains algorithm era h n ≡ true → IsFoundBy algorithm era batches n h found → IsSoundAnalysis found
  by_algorithm Mono found has is = region_none (cums batches h) (extent_of None h n) (λ tile below. same (names.Cum tile) (cum_planned (layout h) n tile below)) found is
  by_algorithm Tiled found has is = tiled_found found has is
  by_algorithm (TiledExactly kappa) found has is = tiled_found found has is
  by_algorithm A3d found has is =
      told found (Found (extent_of era h n) (Leaves [] (tree_checks batches h era n))) (is ∙ ap (analysis_by leaves (extent_of era h n)) (tree_same has)) refl

  header_same : header_answer batches h n ≡ Same
  header_same = own_header batches id n h filed

  by_way : (algorithm : Algorithm) (found : Result Analysis AnalyseFail) → Way algorithm era batches n h found → IsSoundAnalysis found
  by_way algorithm found (unfiled absent is) = absurd (let header = header_same in let both : Same ≡ Absent = sym header ∙ absent in cc)
  by_way algorithm found (refused differs is) = absurd (let header = header_same in let both : Same ≡ Differs = sym header ∙ differs in cc)
  by_way algorithm found (eraless header lacks is) = inr (inr is)
  by_way algorithm found (chainless header lacks is) = inr (inl is)
  by_way algorithm found (past header test is) = absurd (not_past (first_granule (layout h) n) filed.within test)
  by_way algorithm found (asked header has small is) = by_algorithm algorithm found has is

-- the same of a history that is what is filed, whatever file has it
pub sound_in : (algorithm : Algorithm) (era : Option ℕ) (batches : List Batch) (id n : ℕ) (h : History) (found : Result Analysis AnalyseFail) → NotaryOf batches id h n → IsAnalysisIn algorithm era batches (Some h) found → IsSoundAnalysis found
sound_in algorithm era [] id n h found filed is = absurd (let many = counted [] id h n filed in omega (arith, many))
sound_in algorithm era (first ∷ batches) id n h found filed is =
    let many : length batches ≡ n = omega (arith, counted (first ∷ batches) id h n filed) in
    by_way era (first ∷ batches) id n h filed algorithm found (by_answer algorithm era (first ∷ batches) n h found (header_answer (first ∷ batches) h n) refl
    (subst (λ (m : ℕ). IsFoundAt (header_answer (first ∷ batches) h m) algorithm era (first ∷ batches) m h found) many is))

same_some : (a b : History) → Some a ≡ Some b → a ≡ b
same_some a b e = cc

by_file : (algorithm : Algorithm) (era : Option ℕ) (batches : List Batch) (id n : ℕ) (st : Stored) (found : Result Analysis AnalyseFail) (o : Option History) → history_in st ≡ o
    → HoldsNotarized batches id n o → IsAnalysis algorithm era id batches st found → IsSoundAnalysis found
by_file algorithm era batches id n st found None stands holds is = absurd holds
by_file algorithm era batches id n st found (Some h) stands holds is = by (way_of algorithm era batches id n h st found holds.filed is)
  where
    by : WayIn algorithm era batches id n (history_in st) found → IsSoundAnalysis found
    by (other none told_so) = absurd (none h stands holds.filed.header)
    by (under s there way) = by_way era batches id n h holds.filed algorithm found (subst (λ (x : History). Way algorithm era batches n x found) (same_some s h (sym there ∙ stands)) way)

pub sound_unaltered : SoundIsUnaltered
sound_unaltered algorithm era batches id n bytes found holds is = by_file algorithm era batches id n (stored bytes) found (history_in (stored bytes)) refl holds is

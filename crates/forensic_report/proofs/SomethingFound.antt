-- Whatever is filed and stored, an analysis may find something.
use Rattle.std.proofs.Common.{ℕ, nat_le, Bool, true, false, List, [], ◌∷◌, length, Option, Some, None, Result, Ok, Err, refl}
use Rattle.history_model.specs.History.{History}
use Rattle.digest_model.specs.Layout.{layout, first_granule, max_granules}
use Rattle.audit_model.specs.Ranges.{range_of}
use Rattle.notary_link.specs.declared.answer.Answer.{Answer}
use Rattle.notary_link.specs.declared.answer.Answer.TheVariants.{Same, Differs, Absent}
use Rattle.notary_link.specs.declared.name.Name.TheVariants as names
use Rattle.notary_link.specs.Batches.{Batch}
use Rattle.audit_model.specs.Notary.{header_answer, cums}
use Rattle.a3d_forensics.specs.Descent.{tree_told}
use Rattle.validator.specs.declared.verdict.Verdict.{Verdict}
use Rattle.validator.specs.declared.verdict.Verdict.TheVariants as verdicts
use Rattle.validator.specs.declared.fail.AuditFail.{AuditFail}
use Rattle.validator.specs.declared.fail.AuditFail.TheVariants as audits
use Rattle.policy_eras.specs.Policy.{first_past}
use Rattle.validator.specs.Verdicts as verdicts_found
use Rattle.validator.proofs.SomethingFound.{something_is_found}
use Rattle.forensic_report.specs.declared.algorithm.Algorithm.{Algorithm}
use Rattle.forensic_report.specs.declared.algorithm.Algorithm.TheVariants.{Mono, Tiled, TiledExactly, A3d}
use Rattle.forensic_report.specs.declared.fail.AnalyseFail.{AnalyseFail}
use Rattle.forensic_report.specs.declared.fail.AnalyseFail.TheVariants as fails
use Rattle.forensic_report.specs.Analysis.{Extent, Analysis, Region, Targets, Unsealed, HeaderAltered, Found}
use Rattle.forensic_report.specs.Finding.{extent_of, IsRegion, analysis_by, targets_told, has_era, has_chains, IsFoundBy, IsFoundWithin, IsFoundWith, IsFoundIn, IsFoundAt, IsAnalysisIn}
use Rattle.forensic_report.proofs.Told.{leaves}

-- something of which P holds
abbrev Some_is : (Result Analysis AnalyseFail → Type 0) → Type 0
Some_is P = (found : Result Analysis AnalyseFail) × P found

-- a region is a verdict's
of_chain : (chain : ℕ → Answer) (extent : Extent) (v : Result Verdict AuditFail) → verdicts_found.IsFoundBy chain extent.tiles v → Some_is (IsRegion chain extent)
of_chain chain extent (Ok (verdicts.Clean tiles)) is = (Ok (Found extent (Region None)), (refl, is.1))
of_chain chain extent (Ok (verdicts.Altered tiles first)) is = (Ok (Found extent (Region (Some first))), (refl, is.1))
of_chain chain extent (Ok verdicts.Unsealed) is = absurd is
of_chain chain extent (Ok (verdicts.HeaderAltered tiles)) is = absurd is
of_chain chain extent (Err (audits.SealMissing name)) is = (Err (fails.SealMissing name), is)
of_chain chain extent (Err audits.DiskFault) is = absurd is
of_chain chain extent (Err audits.NotaryFault) is = absurd is
of_chain chain extent (Err (audits.ClockBack last)) is = absurd is
of_chain chain extent (Err audits.TooLate) is = absurd is
of_chain chain extent (Err audits.StoreFull) is = absurd is
of_chain chain extent (Err audits.Full) is = absurd is
of_chain chain extent (Err audits.Closed) is = absurd is
of_chain chain extent (Err audits.Broken) is = absurd is
of_chain chain extent (Err audits.TooManyEras) is = absurd is
of_chain chain extent (Err (audits.OutOfTurn count)) is = absurd is
of_chain chain extent (Err audits.NoMemory) is = absurd is

module _ (era : Option ℕ) (batches : List Batch) (n : ℕ) (s : History) where
  by_algorithm : (algorithm : Algorithm) (v : Result Verdict AuditFail) → verdicts_found.IsFoundBy (cums batches s) n v → Some_is (IsFoundBy algorithm era batches n s)
  by_algorithm Mono v is = of_chain (cums batches s) (extent_of None s n) v is
  by_algorithm Tiled v is = (analysis_by Targets (extent_of era s n) (targets_told batches s (range_of era (layout s) n)), refl)
  by_algorithm (TiledExactly kappa) v is = (analysis_by Targets (extent_of era s n) (targets_told batches s (range_of era (layout s) n)), refl)
  by_algorithm A3d v is = (analysis_by leaves (extent_of era s n) (tree_told batches s era n), refl)

  by_bound : (b : Bool) (algorithm : Algorithm) (v : Result Verdict AuditFail) → verdicts_found.IsFoundWithin b batches n s v → Some_is (IsFoundWithin b algorithm era batches n s)
  by_bound true algorithm v is = by_algorithm algorithm v is
  by_bound false algorithm v is = (Err (fails.SealMissing (names.Cum (first_past (layout s)))), refl)

  by_chains : (b : Bool) (algorithm : Algorithm) (v : Result Verdict AuditFail) → verdicts_found.IsFoundUnder batches n s v → Some_is (IsFoundWith b algorithm era batches n s)
  by_chains true algorithm v is = by_bound (nat_le (first_granule (layout s) n) max_granules) algorithm v is
  by_chains false algorithm v is = (Err fails.NotSealedSo, refl)

  by_era : (b : Bool) (algorithm : Algorithm) (v : Result Verdict AuditFail) → verdicts_found.IsFoundUnder batches n s v → Some_is (IsFoundIn b algorithm era batches n s)
  by_era true algorithm v is = by_chains (has_chains algorithm era s n) algorithm v is
  by_era false algorithm v is = (Err fails.NoEra, refl)

  by_header : (a : Answer) (algorithm : Algorithm) (v : Result Verdict AuditFail) → verdicts_found.IsFoundAt a batches n s v → Some_is (IsFoundAt a algorithm era batches n s)
  by_header Same algorithm v is = by_era (has_era era s) algorithm v is
  by_header Differs algorithm v is = (Ok (HeaderAltered n), refl)
  by_header Absent algorithm v is = (Err (fails.SealMissing names.Header), refl)

pub something_is_analysed : (algorithm : Algorithm) (era : Option ℕ) (batches : List Batch) (s : Option History) → (found : Result Analysis AnalyseFail) × IsAnalysisIn algorithm era batches s found
something_is_analysed algorithm era [] s = (Ok (Unsealed era), refl)
something_is_analysed algorithm era (batch ∷ batches) None = (Ok (HeaderAltered (length batches)), refl)
something_is_analysed algorithm era (batch ∷ batches) (Some s) =
    let verdict = something_is_found (batch ∷ batches) (Some s) in
    by_header era (batch ∷ batches) (length batches) s (header_answer (batch ∷ batches) s (length batches)) algorithm verdict.0 verdict.1

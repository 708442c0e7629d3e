-- Searches: what is left where nothing was asked, and by which words they are one another's.
use Rattle.std.proofs.Common.{◌≡◌, ◌≤◌, ℕ, false, Option, Some, None, Result, Ok, Err, IfErr, refl, arith}
use Rattle.outside_words.specs.Faults.{HasCause}
use Rattle.outside_words.proofs.Told.{told_same}
use Rattle.notary_link.specs.declared.fail.AskFail.{AskFail}
use Rattle.notary_link.specs.declared.fail.AskFail.TheVariants as ask_fails
use Rattle.notary_link.specs.Fails.{ask_in_doubt}
use Rattle.tiled_forensics.specs.Target.{IsTargetFail}
use Rattle.notary_link.specs.declared.name.Name.TheVariants as names
use Rattle.notary_link.specs.Notary.{Lists, State}
use Rattle.notary_link.proofs.Frame.{goes_on_same}
use Rattle.notary_link.proofs.Unchanged.{unchanged_same}
use Rattle.history_model.specs.History.{History}
use Rattle.forensic_report.specs.declared.algorithm.Algorithm.{Algorithm}
use Rattle.forensic_report.specs.declared.algorithm.Algorithm.TheVariants.{Tiled, TiledExactly}
use Rattle.forensic_report.specs.declared.fail.AnalyseFail.{AnalyseFail}
use Rattle.forensic_report.specs.declared.fail.AnalyseFail.TheVariants as fails
use Rattle.forensic_report.specs.declared.found.Findings.{Findings as FindingsValue}
use Rattle.forensic_report.specs.Fails.{of_asking, notary_in_doubt}
use Rattle.forensic_report.specs.Finding.{IsFoundBy}
use Rattle.forensic_report.specs.Values.{OrGivesUp, IsOfFinding}
use Rattle.forensic_report.specs.Searching.{Searches}

-- memory was wanting before anything was asked
pub gave_up : (algorithm : Algorithm) (era : Option ℕ) (id n : ℕ) (s : History) (state : State) (result : Result FindingsValue AnalyseFail) → result ≡ Err fails.NoMemory
    → Searches algorithm era id n s state state result
gave_up algorithm era id n s state result is = rw is (record {
  value = told_same state.lists state.lists (λ (before after : Lists). OrGivesUp (IsFoundBy algorithm era (before.batches id) n s) (Err fails.NoMemory)) refl (λ lists. tt);
  fits = tt;
  none_other = tt;
  same = unchanged_same state;
  asked = tt;
  frame = goes_on_same state;
  cause = λ other. absurd cc;
  counted = λ shows tells. refl;
})

-- ---- a question's refusal

pub cause_of : {T U : Type 0} (fail : AskFail) (old mid new : ℕ) → old ≤ mid → HasCause {T = T} ask_fails.NotaryFault mid new (Err fail) → HasCause {T = U} fails.NotaryFault old new (Err (of_asking fail))
cause_of ask_fails.NotaryFault old mid new up rose is = (let later = rose refl in omega (arith, up, later))
cause_of (ask_fails.SealMissing name) old mid new up rose is = absurd cc
cause_of ask_fails.NotSealedSo old mid new up rose is = absurd cc
cause_of (ask_fails.NotaryInconsistent era level index) old mid new up rose is = absurd cc
cause_of ask_fails.NoMemory old mid new up rose is = absurd cc

pub same_doubt : (fail : AskFail) → notary_in_doubt (of_asking fail) ≡ false → ask_in_doubt fail ≡ false
same_doubt ask_fails.NotaryFault is = is
same_doubt (ask_fails.SealMissing name) is = refl
same_doubt ask_fails.NotSealedSo is = refl
same_doubt (ask_fails.NotaryInconsistent era level index) is = refl
same_doubt ask_fails.NoMemory is = is

pub target_refused : (k tile : ℕ) (era : Option ℕ) (fail : AskFail) → IsTargetFail k tile fail → IsOfFinding Tiled era (of_asking fail)
target_refused k tile era ask_fails.NotaryFault is = tt
target_refused k tile era ask_fails.NoMemory is = tt
target_refused k tile era ask_fails.NotSealedSo is = tt
target_refused k tile era (ask_fails.SealMissing (names.Tile missing part)) is = tt
target_refused k tile era (ask_fails.SealMissing names.Header) is = tt
target_refused k tile era (ask_fails.SealMissing (names.Cum missing)) is = tt
target_refused k tile era (ask_fails.SealMissing (names.Node level index)) is = absurd is
target_refused k tile era (ask_fails.SealMissing (names.Era number)) is = absurd is
target_refused k tile era (ask_fails.SealMissing (names.EraNode number level index)) is = absurd is
target_refused k tile era (ask_fails.NotaryInconsistent number level index) is = absurd is

-- ---- sets of just so many members

exactly_refused : (kappa : ℕ) (era : Option ℕ) (fail : AnalyseFail) → IsOfFinding Tiled era fail → IsOfFinding (TiledExactly kappa) era fail
exactly_refused kappa era fails.DiskFault is = is
exactly_refused kappa era fails.NotaryFault is = tt
exactly_refused kappa era fails.NoMemory is = tt
exactly_refused kappa era (fails.SealMissing names.Header) is = tt
exactly_refused kappa era (fails.SealMissing (names.Cum tile)) is = tt
exactly_refused kappa era (fails.SealMissing (names.Tile tile part)) is = tt
exactly_refused kappa era (fails.SealMissing (names.Node level index)) is = is
exactly_refused kappa era (fails.SealMissing (names.Era number)) is = is
exactly_refused kappa era (fails.SealMissing (names.EraNode number level index)) is = is
exactly_refused kappa None fails.NoEra is = is
exactly_refused kappa (Some number) fails.NoEra is = tt
exactly_refused kappa era fails.NotSealedSo is = tt
exactly_refused kappa era (fails.NotaryInconsistent number level index) is = is

any_refused : (kappa : ℕ) (era : Option ℕ) (result : Result FindingsValue AnalyseFail) → IfErr result (IsOfFinding Tiled era) → IfErr result (IsOfFinding (TiledExactly kappa) era)
any_refused kappa era (Ok found) is = tt
any_refused kappa era (Err fail) is = exactly_refused kappa era fail is

-- the targets serve for sets of just so many members, too
pub exactly_so : (kappa : ℕ) (era : Option ℕ) (id n : ℕ) (s : History) (old new : State) (result : Result FindingsValue AnalyseFail) → Searches Tiled era id n s old new result
    → Searches (TiledExactly kappa) era id n s old new result
exactly_so kappa era id n s old new result is = record {
  value = is.value;
  fits = is.fits;
  none_other = any_refused kappa era result is.none_other;
  same = is.same;
  asked = is.asked;
  frame = is.frame;
  cause = is.cause;
  counted = is.counted;
}

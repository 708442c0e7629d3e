-- In which faults the lines of each kind end.
use Rattle.std.proofs.Common.{◌≡◌, ℕ, Bool, true, false, List, Option, Some, None, Result, Ok, Err, IfErr, refl, sym, subst}
use Rattle.validator.specs.declared.fail.AuditFail.{AuditFail}
use Rattle.validator.specs.declared.fail.AuditFail.TheVariants as audits
use Rattle.validator.specs.Notarizing.{early_fault, where_true, IsEarly}
use Rattle.validator.specs.Steps.{IsOfClock}
use Rattle.validator.specs.Texts.{refusal_text}
use Rattle.store_engine.specs.Refusals.{Tail, is_back, is_late}
use Rattle.stmt_text.specs.declared.kind.LineKind.{LineKind}
use Rattle.stmt_text.specs.declared.kind.LineKind.TheVariants as kinds
use Rattle.stmt_text.specs.declared.kind.WorldPart.TheVariants as parts
use Rattle.session_model.specs.Standing.{IsOfStore}
use Rattle.store_world.specs.declared.answered.Answered.{Answered}
use Rattle.store_world.specs.declared.fail.LineFail.{LineFail}
use Rattle.store_world.specs.declared.fail.LineFail.TheVariants as fails
use Rattle.store_world.specs.Answers.{refusal, Replies, IsAnswer}
use Rattle.store_world.specs.Faults.{IsOfStoring, MayEndIn, EndsTimely, EndsUnasked}

-- the notary answers
pub ends_anyhow : (result : Result Answered LineFail) → IfErr result (λ fail. Unit {0})
ends_anyhow (Ok answered) = tt
ends_anyhow (Err fail) = tt

module _ (stores : Type 0) where
  of_store : (kind : LineKind) → IsOfStore kind → (fail : LineFail) → IsOfStoring stores fail → MayEndIn kind stores fail
  of_store (kinds.InWorld parts.Tables) is fail only = only
  of_store (kinds.InWorld parts.Sessions) is fail only = only
  of_store (kinds.InWorld (parts.Notary asks)) is fail only = absurd is
  of_store kinds.Blank is fail only = absurd is
  of_store (kinds.SetsMoment moment) is fail only = absurd is
  of_store kinds.OutsideScripts is fail only = absurd is

  pub ends_storing : (kind : LineKind) → IsOfStore kind → (result : Result Answered LineFail) → IfErr result (IsOfStoring stores) → IfErr result (MayEndIn kind stores)
  ends_storing kind is (Ok answered) only = tt
  ends_storing kind is (Err fail) only = of_store kind is fail only

  wanting : (kind : LineKind) → MayEndIn kind stores fails.NoMemory
  wanting (kinds.InWorld parts.Tables) = tt
  wanting (kinds.InWorld parts.Sessions) = tt
  wanting (kinds.InWorld (parts.Notary asks)) = tt
  wanting kinds.Blank = tt
  wanting (kinds.SetsMoment moment) = tt
  wanting kinds.OutsideScripts = tt

  pub ends_wanting : (kind : LineKind) (result : Result Answered LineFail) → IfErr result (λ fail. fail ≡ fails.NoMemory) → IfErr result (MayEndIn kind stores)
  ends_wanting kind (Ok answered) only = tt
  ends_wanting kind (Err fail) only = subst (MayEndIn kind stores) (sym only) (wanting kind)

-- where the notary is not asked
not_asked : (fail : LineFail) → (fail ≡ fails.NotaryFault → ⊥) → IsOfStoring (Unit {0}) fail
not_asked fails.DiskFault none = tt
not_asked fails.NotaryFault none = none refl
not_asked fails.NoMemory none = tt

pub ends_unasked : (kind : LineKind) → IsOfStore kind → (fail : LineFail) → (fail ≡ fails.NotaryFault → ⊥) → MayEndIn kind (Unit {0}) fail
ends_unasked kind is fail none = of_store (Unit {0}) kind is fail (not_asked fail none)

-- ---- before anything is asked

-- nothing speaks early
pub ends_any_time : (early : Option AuditFail) → early ≡ None → (result : Result Answered LineFail) → IfErr result (EndsTimely early)
ends_any_time early none (Ok answered) = tt
ends_any_time early none (Err fails.DiskFault) = none
ends_any_time early none (Err fails.NotaryFault) = none
ends_any_time early none (Err fails.NoMemory) = tt

pub ends_wanting_early : (early : Option AuditFail) (result : Result Answered LineFail) → IfErr result (λ fail. fail ≡ fails.NoMemory) → IfErr result (EndsTimely early)
ends_wanting_early early (Ok answered) only = tt
ends_wanting_early early (Err fail) only = subst (EndsTimely early) (sym only) tt

-- the clock speaks early, or that the store is closed
some_of_clock : (b : Bool) (cause fail : AuditFail) (rest : Option AuditFail) → IsOfClock cause → (rest ≡ Some fail → IsOfClock fail) → where_true b cause rest ≡ Some fail → IsOfClock fail
some_of_clock true cause fail rest of_it other is = let same : cause ≡ fail = cc in subst IsOfClock same of_it
some_of_clock false cause fail rest of_it other is = other is

pub early_of_clock : (t : Tail) (b : Bool) (now : ℕ) (fail : AuditFail) → early_fault t b now ≡ Some fail → IsOfClock fail
early_of_clock t b now fail is =
    some_of_clock b audits.Closed fail _ tt
    (some_of_clock (is_back t now) (audits.ClockBack t.last) fail _ tt
    (some_of_clock (is_late t now) audits.TooLate fail None tt (λ none. absurd cc))) is

wants_only : (early : Option AuditFail) (name : List ℕ) (result : Result Answered LineFail) → Replies (refusal name) result → IfErr result (EndsTimely early)
wants_only early name (Ok answered) replies = tt
wants_only early name (Err fails.NoMemory) replies = tt
wants_only early name (Err fails.DiskFault) replies = absurd replies
wants_only early name (Err fails.NotaryFault) replies = absurd replies

module _ {A : Type 0} (text : A → List ℕ) (early : Option AuditFail) (result : Result Answered LineFail) where
  of_clock : (fail : AuditFail) → IsOfClock fail → IsAnswer text (Err fail) result → IfErr result (EndsTimely early)
  of_clock audits.Closed of_it answer = subst (λ (r : Result Answered LineFail). IfErr r (EndsTimely early)) (sym answer) tt
  of_clock (audits.ClockBack last) of_it answer = wants_only early (refusal_text (audits.ClockBack last)) result answer
  of_clock audits.TooLate of_it answer = wants_only early (refusal_text audits.TooLate) result answer
  of_clock audits.DiskFault of_it answer = absurd of_it
  of_clock audits.NotaryFault of_it answer = absurd of_it
  of_clock audits.StoreFull of_it answer = absurd of_it
  of_clock audits.TooManyEras of_it answer = absurd of_it
  of_clock audits.Full of_it answer = absurd of_it
  of_clock audits.Broken of_it answer = absurd of_it
  of_clock (audits.SealMissing name) of_it answer = absurd of_it
  of_clock (audits.OutOfTurn count) of_it answer = absurd of_it
  of_clock audits.NoMemory of_it answer = absurd of_it

-- an audit that was answered by what speaks early against it
pub ends_timely : {A : Type 0} (text : A → List ℕ) (t : Tail) (b : Bool) (now : ℕ) (r : Result A AuditFail) (result : Result Answered LineFail) → IsAnswer text r result → IsEarly (early_fault t b now) r → IfErr result (EndsTimely (early_fault t b now))
ends_timely {A = A} text t b now r result answer early = by (early_fault t b now) refl early
  where
    by : (e : Option AuditFail) → early_fault t b now ≡ e → IsEarly e r → IfErr result (EndsTimely e)
    by None is none = ends_any_time None refl result
    by (Some fail) is same = of_clock text (Some fail) result fail (early_of_clock t b now fail is) (subst (λ (x : Result A AuditFail). IsAnswer text x result) same answer)

-- ---- while an audit goes on

-- none does
pub ends_asking : (goes_on : Bool) → goes_on ≡ false → (result : Result Answered LineFail) → IfErr result (EndsUnasked goes_on)
ends_asking goes_on none (Ok answered) = tt
ends_asking goes_on none (Err fails.DiskFault) = tt
ends_asking goes_on none (Err fails.NotaryFault) = none
ends_asking goes_on none (Err fails.NoMemory) = tt

pub ends_wanting_unasked : (goes_on : Bool) (result : Result Answered LineFail) → IfErr result (λ fail. fail ≡ fails.NoMemory) → IfErr result (EndsUnasked goes_on)
ends_wanting_unasked goes_on (Ok answered) only = tt
ends_wanting_unasked goes_on (Err fail) only = subst (EndsUnasked goes_on) (sym only) tt

-- what is replied wants memory at most
pub ends_replied : (goes_on : Bool) (answer : Answered) (result : Result Answered LineFail) → Replies answer result → IfErr result (EndsUnasked goes_on)
ends_replied goes_on answer (Ok answered) replies = tt
ends_replied goes_on answer (Err fails.NoMemory) replies = tt
ends_replied goes_on answer (Err fails.DiskFault) replies = absurd replies
ends_replied goes_on answer (Err fails.NotaryFault) replies = absurd replies

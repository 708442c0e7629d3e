-- A notarization or a policy that something speaks against is refused, and the world stays.
use Rattle.std.proofs.Common.{◌≡◌, List, Option, Some, None, Result, Ok, Err, OnOk, IfOk, ℕ, refl, sym, subst}
use Rattle.disk_words.specs.Disk.{State, turn, Unchanged}
use Rattle.store_engine.specs.Opened.{Opened}
use Rattle.session_model.specs.Standing.{Machine}
use Rattle.validator.specs.declared.fail.AuditFail.{AuditFail}
use Rattle.validator.specs.declared.fail.AuditFail.TheVariants as fails
use Rattle.validator.specs.Texts.{refusal_text}
use Rattle.validator.specs.Notarizing.{IsRefusedBy}
use Rattle.validator.specs.Reaching.{IsLeft, StandsAfter}
use Rattle.audit_steps.specs.declared.auditing.Auditing.{Auditing}
use Rattle.store_world.specs.declared.answered.Answered.{Answered}
use Rattle.store_world.specs.declared.fail.LineFail.{LineFail}
use Rattle.store_world.specs.World.{World}
use Rattle.store_world.specs.Standing.{OpenWorld, IsIn}
use Rattle.store_world.specs.Answers.{refusal}
use Rattle.store_world.specs.Parts.{alone}
use Rattle.store_world.specs.Steps.{Step, refuses}
use Rattle.store_world.specs.Stepping.{Goes}
use Rattle.store_world.proofs.Left.{stays_same, left}
use Rattle.store_world.proofs.Replies.{Answers}
use Rattle.store_world.proofs.Validating.{replies_as}

-- after a failure it is no matter where the store stands
pub wherever : (w : World) (next : Step) (fail : LineFail) (later other : OpenWorld) (old new : State) (before after : List ℕ)
    → Goes w next (Err fail) later old new before after → Goes w next (Err fail) other old new before after
wherever w next fail later other old new before after goes = record { reply = tt; stands = tt; settled = λ only. tt; images = goes.images; kept = goes.kept; same = λ stays. tt }

module _ (s later_s : Opened) (old new : State) (before after : List ℕ) (only_now : (c : List ℕ) → old.was_image (turn old) c → old.is_image c)
    (reads : Unchanged old new → after ≡ before) (w : World) (kept_sessions : Machine) (auditing : Option Auditing) (i : IsIn w (alone kept_sessions s auditing) before)
    (fault : Option AuditFail) (fail : AuditFail) (is : fault ≡ Some fail) (same : Unchanged old new) where
  abbrev next : Step
  next = refuses w (refusal_text fail)

  abbrev To : Result Answered LineFail → Type 0
  To result = Goes w next result (alone kept_sessions later_s auditing) old new before after

  stay : (result : Result Answered LineFail) → IfOk result (λ answered. answered ≡ refusal (refusal_text fail)) → Goes w next result (alone kept_sessions s auditing) old new before after
  stay result reply = subst (λ (a : List ℕ). Goes w next result (alone kept_sessions s auditing) old new before a) (sym (reads same))
      (left w (alone kept_sessions s auditing) old new before i same only_now next result (stays_same w) refl (replies_as next (refusal (refusal_text fail)) result refl refl reply))

  faulty : (result : Result Answered LineFail) → OnOk result ⊥ → To result
  faulty (Ok answered) never = absurd never
  faulty (Err other) never = wherever w next other (alone kept_sessions s auditing) (alone kept_sessions later_s auditing) old new before after (stay (Err other) tt)

  told : (told_fail : AuditFail) → fault ≡ Some told_fail → later_s ≡ s → (result : Result Answered LineFail) → IfOk result (λ answered. answered ≡ refusal (refusal_text told_fail)) → To result
  told told_fail told_is stands result reply =
      let same_fail : told_fail ≡ fail = cc in
      subst (λ (x : Opened). Goes w next result (alone kept_sessions x auditing) old new before after) (sym stands)
      (stay result (subst (λ (f : AuditFail). IfOk result (λ answered. answered ≡ refusal (refusal_text f))) same_fail reply))

  pub refused : {A : Type 0} (text : A → List ℕ) (r : Result A AuditFail) (result : Result Answered LineFail) → Answers text r result → IsRefusedBy fault r → (reached shut : Type 0) → StandsAfter r reached (IsLeft s later_s old new) shut → To result
  refused text (Ok n) result answer by R S stands = let none : fault ≡ None = by in absurd cc
  refused text (Err fails.Full) result answer by R S stands = let none : fault ≡ None = by in absurd cc
  refused text (Err (fails.OutOfTurn count)) result answer by R S stands = let none : fault ≡ None = by in absurd cc
  refused text (Err fails.DiskFault) result answer by R S stands = faulty result answer
  refused text (Err fails.NotaryFault) result answer by R S stands = faulty result answer
  refused text (Err fails.NoMemory) result answer by R S stands = faulty result answer
  refused text (Err fails.Closed) result answer by R S stands = faulty result answer
  refused text (Err (fails.ClockBack last)) result answer by R S stands = told (fails.ClockBack last) by stands.0 result answer
  refused text (Err fails.TooLate) result answer by R S stands = told fails.TooLate by stands.0 result answer
  refused text (Err fails.StoreFull) result answer by R S stands = told fails.StoreFull by stands.0 result answer
  refused text (Err fails.TooManyEras) result answer by R S stands = told fails.TooManyEras by stands.0 result answer
  refused text (Err fails.Broken) result answer by R S stands = told fails.Broken by stands.0 result answer
  refused text (Err (fails.SealMissing name)) result answer by R S stands = told (fails.SealMissing name) by stands.0 result answer

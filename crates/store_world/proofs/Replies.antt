-- What an answer says of a reply alone.
use Rattle.std.proofs.Common.{◌≡◌, ℕ, List, Result, Ok, Err, IfOk, OnOk, subst, sym}
use Rattle.validator.specs.declared.fail.AuditFail.{AuditFail}
use Rattle.validator.specs.declared.fail.AuditFail.TheVariants as audits
use Rattle.validator.specs.Texts.{refusal_text}
use Rattle.store_world.specs.declared.answered.Answered.{Answered}
use Rattle.store_world.specs.declared.fail.LineFail.{LineFail}
use Rattle.store_world.specs.declared.fail.LineFail.TheVariants as fails
use Rattle.store_world.specs.Answers.{said, refusal, Replies, IsAnswerTo, IsAnswer}

abbrev pub AnswersTo : AuditFail → Result Answered LineFail → Type 0
AnswersTo audits.DiskFault result = OnOk result ⊥
AnswersTo audits.NotaryFault result = OnOk result ⊥
AnswersTo audits.NoMemory result = OnOk result ⊥
AnswersTo audits.Closed result = OnOk result ⊥
AnswersTo fail result = IfOk result (λ answered. answered ≡ refusal (refusal_text fail))

abbrev pub Answers : {A : Type 0} → (A → List ℕ) → Result A AuditFail → Result Answered LineFail → Type 0
Answers text (Ok a) result = IfOk result (λ answered. answered ≡ said (text a))
Answers text (Err fail) result = AnswersTo fail result

pub replied : (answer : Answered) (result : Result Answered LineFail) → Replies answer result → IfOk result (λ answered. answered ≡ answer)
replied answer (Ok answered) replies = replies
replied answer (Err fail) replies = tt

none : (fail : LineFail) (result : Result Answered LineFail) → result ≡ Err fail → OnOk result ⊥
none fail result is = subst (λ (r : Result Answered LineFail). OnOk r ⊥) (sym is) tt

answer_replies : (fail : AuditFail) (result : Result Answered LineFail) → IsAnswerTo fail result → AnswersTo fail result
answer_replies audits.DiskFault result is = none fails.DiskFault result is
answer_replies audits.NotaryFault result is = none fails.NotaryFault result is
answer_replies audits.NoMemory result is = none fails.NoMemory result is
answer_replies audits.Closed result is = none fails.NoMemory result is
answer_replies (audits.ClockBack last) result is = replied (refusal (refusal_text (audits.ClockBack last))) result is
answer_replies audits.TooLate result is = replied (refusal (refusal_text audits.TooLate)) result is
answer_replies audits.StoreFull result is = replied (refusal (refusal_text audits.StoreFull)) result is
answer_replies audits.TooManyEras result is = replied (refusal (refusal_text audits.TooManyEras)) result is
answer_replies audits.Full result is = replied (refusal (refusal_text audits.Full)) result is
answer_replies audits.Broken result is = replied (refusal (refusal_text audits.Broken)) result is
answer_replies (audits.SealMissing name) result is = replied (refusal (refusal_text (audits.SealMissing name))) result is
answer_replies (audits.OutOfTurn count) result is = replied (refusal (refusal_text (audits.OutOfTurn count))) result is

pub replies : {A : Type 0} (text : A → List ℕ) (r : Result A AuditFail) (result : Result Answered LineFail) → IsAnswer text r result → Answers text r result
replies text (Ok a) result is = replied (said (text a)) result is
replies text (Err fail) result is = answer_replies fail result is

-- What is answered, as a text and whether it is a refusal.
use Rattle.std.specs.Prelude.{◌≡◌, true, false, List, ℕ, ◌++◌, ◌∷◌, [], codes, Result, Ok, Err}
use Rattle.statement_core.specs.declared.reply.Reply.{Reply}
use Rattle.statement_core.specs.declared.statements.StepFail.{StepFail}
use Rattle.statement_core.specs.declared.statements.StepFail.TheVariants as steps
use Rattle.statement_core.specs.Replies.{reply_text, is_refusal}
use Rattle.validator.specs.declared.fail.AuditFail.{AuditFail}
use Rattle.validator.specs.declared.fail.AuditFail.TheVariants as audits
use Rattle.validator.specs.Texts.{verdict_text, refusal_text}
use Rattle.audit_steps.specs.declared.audit.Audit.{Audit}
use Rattle.audit_steps.specs.declared.audit.Audit.TheVariants.{Going, Found}
use Rattle.forensic_report.specs.declared.report.Report.{Report}
use Rattle.forensic_report.specs.declared.fail.AnalyseFail.{AnalyseFail}
use Rattle.forensic_report.specs.declared.fail.AnalyseFail.TheVariants as analyses
use Rattle.forensic_report.specs.Fails as reports
use Rattle.store_world.specs.Steps.{auditing_text}
use Rattle.store_world.specs.declared.answered.Answered.{Answered}
use Rattle.store_world.specs.declared.fail.LineFail.{LineFail}
use Rattle.store_world.specs.declared.fail.LineFail.TheVariants as fails

-- a failure of a statement
abbrev pub fault_of : StepFail → LineFail
fault_of steps.DiskFault = fails.DiskFault
fault_of steps.NoMemory = fails.NoMemory

-- a line of these words
abbrev pub said : List ℕ → Answered
said words = record { refused = false; text = words ++ 10 ∷ [] }

-- a refusal of this name
abbrev pub refusal : List ℕ → Answered
refusal name = record { refused = true; text = codes "refused " ++ name ++ 10 ∷ [] }

-- the reply to a statement on tables
abbrev pub replied : Reply → Answered
replied reply = record { refused = is_refusal reply; text = reply_text reply }

-- this is replied, or there is no memory for its text
abbrev pub Replies : Answered → Result Answered LineFail → Type 0
Replies answer (Ok answered) = answered ≡ answer
Replies answer (Err fails.NoMemory) = Unit {0}
Replies answer (Err fail) = ⊥

-- the answer to what a statement came to
abbrev pub IsReplied : Result Reply StepFail → Result Answered LineFail → Type 0
IsReplied (Ok reply) result = Replies (replied reply) result
IsReplied (Err fail) result = result ≡ Err (fault_of fail)

-- The answer where an audit came to no end: its refusals are told, and its faults have no reply. An open store is not refused
-- as closed.
abbrev pub IsAnswerTo : AuditFail → Result Answered LineFail → Type 0
IsAnswerTo audits.DiskFault result = result ≡ Err fails.DiskFault
IsAnswerTo audits.NotaryFault result = result ≡ Err fails.NotaryFault
IsAnswerTo audits.NoMemory result = result ≡ Err fails.NoMemory
IsAnswerTo audits.Closed result = result ≡ Err fails.NoMemory
IsAnswerTo fail result = Replies (refusal (refusal_text fail)) result

-- the answer to what an audit came to, of which this is the text
abbrev pub IsAnswer : {A : Type 0} → (A → List ℕ) → Result A AuditFail → Result Answered LineFail → Type 0
IsAnswer text (Ok a) result = Replies (said (text a)) result
IsAnswer text (Err fail) result = IsAnswerTo fail result

-- what a piece of an audit came to: how many items are read, or what was found
abbrev pub audit_text : Audit → List ℕ
audit_text (Going read) = auditing_text read
audit_text (Found verdict) = verdict_text verdict

-- a report, as it is written
abbrev pub reported : Report → Answered
reported report = record { refused = false; text = report.text }

-- the answer to what an analysis came to: its refusals are told, and its faults have no reply
abbrev pub IsReported : Result Report AnalyseFail → Result Answered LineFail → Type 0
IsReported (Ok report) result = Replies (reported report) result
IsReported (Err analyses.DiskFault) result = result ≡ Err fails.DiskFault
IsReported (Err analyses.NotaryFault) result = result ≡ Err fails.NotaryFault
IsReported (Err analyses.NoMemory) result = result ≡ Err fails.NoMemory
IsReported (Err fail) result = Replies (refusal (reports.refusal_text fail)) result

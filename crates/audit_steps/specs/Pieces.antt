-- What a piece of an audit answers.
use Rattle.std.specs.Prelude.{◌≡◌, ◌<◌, ◌+◌, ℕ, List, length, Option, None, Result, Ok, Err}
use Rattle.history_model.specs.Stored.{stored}
use Rattle.audit_model.specs.Altered.{history_with}
use Rattle.validator.specs.declared.fail.AuditFail.{AuditFail}
use Rattle.validator.specs.declared.fail.AuditFail.TheVariants as fails
use Rattle.validator.specs.declared.verdict.Verdict.{Verdict}
use Rattle.validator.specs.Verdicts.{questions}
use Rattle.audit_steps.specs.declared.auditing.Auditing.{Auditing}
use Rattle.audit_steps.specs.declared.audit.Audit.{Audit}
use Rattle.audit_steps.specs.declared.audit.Audit.TheVariants as audits
use Rattle.audit_steps.specs.Auditing.{read_by}
use Rattle.audit_steps.specs.PieceSize.{piece}

-- the bytes have a header with the id, and more items are left than a piece reads
pub record HasMore (id : ℕ) (a : Option Auditing) (x : List ℕ) : Type 0 where
  pub history : history_with id (stored x) ≡ None → ⊥
  pub left : read_by a + piece < length (stored x).items

-- the audit goes on
abbrev pub IsGoing : Result Audit AuditFail → Type 0
IsGoing (Ok (audits.Going read)) = Unit {0}
IsGoing result = ⊥

-- where an auditor stands behind an answer: with as many items as it told, else as new
abbrev pub StandsAt : Result Audit AuditFail → Option Auditing → Type 0
StandsAt (Ok (audits.Going read)) a = read_by a ≡ read
StandsAt (Ok (audits.Found verdict)) a = a ≡ None
StandsAt (Err fail) a = a ≡ None

-- it goes on with so many items read, or the disk or memory has failed
abbrev pub GoesOnWith : ℕ → Result Audit AuditFail → Type 0
GoesOnWith n (Ok (audits.Going read)) = read ≡ n
GoesOnWith n (Ok (audits.Found verdict)) = ⊥
GoesOnWith n (Err fails.DiskFault) = Unit {0}
GoesOnWith n (Err fails.NoMemory) = Unit {0}
GoesOnWith n (Err fail) = ⊥

-- the validation that the last piece is; of the others nothing is said
abbrev pub WhereLast : (Result Verdict AuditFail → Type 0) → Result Audit AuditFail → Type 0
WhereLast P (Ok (audits.Going read)) = Unit {0}
WhereLast P (Ok (audits.Found verdict)) = P (Ok verdict)
WhereLast P (Err fail) = P (Err fail)

-- how many questions it takes at most, where so many eras begin at one of n tiles
abbrev pub asks : (ℕ → ℕ) → Audit → ℕ
asks eras (audits.Going read) = 0
asks eras (audits.Found verdict) = questions eras verdict

-- What a line does whatever world it is, also after a failure, where no store is held.
use Rattle.std.specs.Prelude.{◌≡◌, ◌≤◌, ◌+◌, ℕ, Bool, Option, Result, IfOk, IfErr, IfSome, OnOk}
use Rattle.outside_words.specs.Told.{WhereTold}
use Rattle.disk_words.specs.Disk as disks
use Rattle.history_model.specs.Stored.{stored}
use Rattle.digest_model.specs.Layout.{max_later}
use Rattle.audit_model.specs.Altered.{history_with}
use Rattle.stmt_text.specs.declared.stmt.Stmt.TheVariants as stmts
use Rattle.stmt_text.specs.declared.line.Line.{Line}
use Rattle.stmt_text.specs.declared.line.Line.TheVariants as lines
use Rattle.validator.specs.Desk.{Desk, DeskIsLeft}
use Rattle.validator.specs.declared.verdict.Verdict.{Verdict}
use Rattle.validator.specs.declared.fail.AuditFail.{AuditFail}
use Rattle.validator.specs.Texts.{verdict_text}
use Rattle.validator.specs.Verdicts.{Validates, MakesMark, IsOfValidation, sealed_in}
use Rattle.audit_steps.specs.declared.auditing.Auditing.{Auditing}
use Rattle.audit_steps.specs.declared.audit.Audit.{Audit}
use Rattle.audit_steps.specs.Auditing.{read_by, IsAuditOf}
use Rattle.audit_steps.specs.PieceSize.{piece}
use Rattle.audit_steps.specs.Pieces.{HasMore, IsGoing, GoesOnWith, WhereLast, StandsAt, asks}
use Rattle.forensic_report.specs.declared.algorithm.Algorithm.{Algorithm}
use Rattle.forensic_report.specs.declared.report.Report.{Report}
use Rattle.forensic_report.specs.declared.fail.AnalyseFail.{AnalyseFail}
use Rattle.store_world.specs.declared.answered.Answered.{Answered}
use Rattle.store_world.specs.declared.fail.LineFail.{LineFail}
use Rattle.store_world.specs.declared.fail.LineFail.TheVariants as fails
use Rattle.store_world.specs.Answers.{refusal, IsAnswer, IsReported, audit_text}
use Rattle.store_world.specs.AtDesk.{Judges, Reports}
use Rattle.store_world.specs.Steps.{IsWorldLine, algorithm_of, why_none}

-- all lines of a world but `validate`, `audit` and `analyse`
abbrev pub NeedsStore : Line → Type 0
NeedsStore (lines.Plain stmts.Validate) = ⊥
NeedsStore (lines.Plain stmts.Audit) = ⊥
NeedsStore (lines.Plain (stmts.Analyse algorithm era)) = ⊥
NeedsStore line = IsWorldLine line

-- a line that needs a store is told why there is none, or memory wants; neither the disk nor the notary is called
pub record IsToldNone (is_old : Bool) (result : Result Answered LineFail) (old new : Desk) : Type 0 where
  pub reply : IfOk result (λ answered. answered ≡ refusal (why_none is_old))
  pub only_memory : IfErr result (λ fail. fail ≡ fails.NoMemory)
  pub left : DeskIsLeft old new

-- what a validation came to is told
pub record TellsVerdict (id now : ℕ) (result : Result Answered LineFail) (old new : Desk) : Type 0 where
  pub answer : Result Verdict AuditFail
  pub judges : Judges id now answer old new
  pub reply : IsAnswer verdict_text answer result

-- a piece of an audit at this second, over a disk that is as it was: while it goes on the notary is as it was, too, and the last
-- piece is a validation
pub record Audits (id now : ℕ) (auditing later : Option Auditing) (answer : Result Audit AuditFail) (old new : Desk) : Type 0 where
  pub same : disks.Unchanged old.disk new.disk
  pub none_other : IfErr answer IsOfValidation
  -- it goes on where more items are left than it reads, and only there
  pub more : IfSome old.disk.reads (λ bytes. IsAuditOf id auditing bytes → HasMore id auditing bytes → GoesOnWith (read_by auditing + piece) answer)
  pub going : IfSome old.disk.reads (λ bytes. IsAuditOf id auditing bytes → IsGoing answer → HasMore id auditing bytes)
  pub quiet : IsGoing answer → new.notary ≡ old.notary
  -- nor is it asked where more is left, and the disk or memory fails
  pub unasked : IfSome old.disk.reads (λ bytes. IsAuditOf id auditing bytes → HasMore id auditing bytes → new.notary ≡ old.notary)
  -- the auditor is one of the bytes behind it, too
  pub goes_on : IfSome old.disk.reads (λ bytes. IsAuditOf id auditing bytes → IsAuditOf id later bytes)
  pub found : IfSome old.disk.reads (λ bytes. IsAuditOf id auditing bytes → WhereTold old.notary.lists new.notary.lists (λ lists later.
      WhereLast (λ verdict. Validates id now old.notary.limits (stored bytes) verdict old.notary.trace new.notary.trace lists later) answer))
  pub trace : WhereTold old.notary.trace new.notary.trace (λ was is. WhereLast (λ verdict. MakesMark id now verdict was is) answer)
  -- by few questions, however many eras there may be, and by those of what is stored
  pub asked : IfOk answer (λ audit. new.notary.asked ≤ old.notary.asked + asks (λ n. max_later) audit)
  pub few : IfSome old.disk.reads (λ bytes. IsAuditOf id auditing bytes → IfOk answer (λ audit. new.notary.asked ≤ old.notary.asked + asks (sealed_in (history_with id (stored bytes))) audit))

-- what a piece of an audit came to is told, and then the auditor stands where it says
pub record TellsPiece (id : ℕ) (auditing later : Option Auditing) (now : ℕ) (result : Result Answered LineFail) (old new : Desk) : Type 0 where
  pub answer : Result Audit AuditFail
  pub audits : Audits id now auditing later answer old new
  pub reply : IsAnswer audit_text answer result
  pub stands : OnOk result (StandsAt answer later)

-- what an analysis came to is told
pub record TellsReport (id : ℕ) (algorithm : Algorithm) (era : Option ℕ) (now : ℕ) (result : Result Answered LineFail) (old new : Desk) : Type 0 where
  pub answer : Result Report AnalyseFail
  pub reports : Reports id algorithm era now answer old new
  pub reply : IsReported answer result

-- A validation and an analysis go by the stored bytes and what is filed alone, and a piece of an audit by what was read before, too.
abbrev pub GoesByBytes : Line → ℕ → Option Auditing → Option Auditing → ℕ → Result Answered LineFail → Desk → Desk → Type 0
GoesByBytes (lines.Plain stmts.Validate) id auditing later now result old new = TellsVerdict id now result old new
GoesByBytes (lines.Plain stmts.Audit) id auditing later now result old new = TellsPiece id auditing later now result old new
GoesByBytes (lines.Plain (stmts.Analyse algorithm era)) id auditing later now result old new = TellsReport id (algorithm_of algorithm) era now result old new
GoesByBytes line id auditing later now result old new = Unit {0}

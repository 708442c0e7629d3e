-- What the parts of a line do.
use Rattle.std.specs.Prelude.{◌≡◌, ℕ, Bool, false, Option, Some, None, Result}
use Rattle.disk_words.specs.Disk as disks
use Rattle.notary_link.specs.Notary as notaries
use Rattle.store_engine.specs.Opened.{Opened}
use Rattle.session_model.specs.Standing.{Machine}
use Rattle.stmt_text.specs.declared.stmt.Stmt.TheVariants as stmts
use Rattle.stmt_text.specs.declared.line.Line.{Line}
use Rattle.stmt_text.specs.declared.line.Line.TheVariants as lines
use Rattle.stmt_text.specs.declared.kind.NotaryLine.{NotaryLine}
use Rattle.stmt_text.specs.declared.kind.NotaryLine.TheVariants as asked
use Rattle.validator.specs.Desk.{Desk, KeepsSound, desk}
use Rattle.audit_steps.specs.declared.auditing.Auditing.{Auditing}
use Rattle.store_world.specs.declared.answered.Answered.{Answered}
use Rattle.store_world.specs.declared.fail.LineFail.{LineFail}
use Rattle.store_world.specs.Standing.{OpenWorld, StandsOver}
use Rattle.store_world.specs.Stepping.{StepsFor}

-- an open store and its id, with what is kept of its sessions, and an audit
abbrev pub alone : Machine → Opened → Option Auditing → OpenWorld
alone kept s auditing = record { id = s.header.id; opened = Some (record { store = s; sessions = kept }); is_old = false; auditing = auditing }

-- an id without a store, whether the file is of the first format, and an audit
abbrev pub no_store : ℕ → Bool → Option Auditing → OpenWorld
no_store id is_old auditing = record { id = id; opened = None; is_old = is_old; auditing = auditing }

-- whatever the notary is, which is not called
abbrev pub StepsBeside : Line → ℕ → Result Answered LineFail → OpenWorld → OpenWorld → disks.State → disks.State → Type 0
StepsBeside line now result held later old new = (filed : notaries.State) → StepsFor line now result held later (desk old filed) (desk new filed)

-- and whatever it holds, it stays sound
abbrev pub StaysSound : OpenWorld → disks.State → disks.State → Type 0
StaysSound held old new = (filed : notaries.State) → KeepsSound (StandsOver held) (desk old filed) (desk new filed)

-- whatever store there is, which is not called
abbrev pub StepsWithout : Line → ℕ → Result Answered LineFail → ℕ → disks.State → disks.State → notaries.State → notaries.State → Type 0
StepsWithout line now result id old new filed later = (held : OpenWorld) → held.id ≡ id → StepsFor line now result held held (desk old filed) (desk new later)

-- with another audit under way
abbrev pub with_auditing : OpenWorld → Option Auditing → OpenWorld
with_auditing held auditing = record held { auditing = auditing }

-- A piece of an audit goes from one audit to the next, whatever store there is, which is not called.
abbrev pub StepsAuditing : ℕ → Result Answered LineFail → ℕ → Option Auditing → Option Auditing → Desk → Desk → Type 0
StepsAuditing now result id from to old new = (held : OpenWorld) → held.id ≡ id → held.auditing ≡ from
    → StepsFor (lines.Plain stmts.Audit) now result held (with_auditing held to) old new

-- the line that asks this of the notary
abbrev pub asking : NotaryLine → Line
asking asked.Notarize = lines.Plain stmts.Notarize
asking asked.Validate = lines.Plain stmts.Validate
asking asked.Audit = lines.Plain stmts.Audit
asking (asked.Policy k algs) = lines.Plain (stmts.Policy k algs)
asking (asked.Analyse algorithm era) = lines.Plain (stmts.Analyse algorithm era)

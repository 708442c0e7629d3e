-- In which faults a line may end.
use Rattle.std.specs.Prelude.{◌≡◌, ℕ, Bool, false, Option, Some, None}
use Rattle.stmt_text.specs.declared.stmt.Stmt.TheVariants as stmts
use Rattle.stmt_text.specs.declared.line.Line.{Line}
use Rattle.stmt_text.specs.declared.line.Line.TheVariants as lines
use Rattle.stmt_text.specs.declared.kind.LineKind.{LineKind}
use Rattle.stmt_text.specs.declared.kind.LineKind.TheVariants as kinds
use Rattle.stmt_text.specs.declared.kind.WorldPart.TheVariants as parts
use Rattle.store_world.specs.declared.fail.LineFail.{LineFail}
use Rattle.store_world.specs.declared.fail.LineFail.TheVariants as fails
use Rattle.statement_core.specs.Database as statements
use Rattle.validator.specs.declared.fail.AuditFail.{AuditFail}
use Rattle.validator.specs.Notarizing.{early_fault}
use Rattle.store_world.specs.World.{World}
use Rattle.store_world.specs.Steps.{has_more}

-- in one of the disk, and only where it stores
abbrev pub IsOfStoring : Type 0 → LineFail → Type 0
IsOfStoring stores fails.DiskFault = stores
IsOfStoring stores fails.NotaryFault = ⊥
IsOfStoring stores fails.NoMemory = Unit {0}

-- A line that the notary answers asks it and reads the file anew, so it may end in a fault of either device. Any other uses the
-- disk alone, to store something.
abbrev pub MayEndIn : LineKind → Type 0 → LineFail → Type 0
MayEndIn (kinds.InWorld (parts.Notary asks)) stores fail = Unit {0}
MayEndIn kind stores fail = IsOfStoring stores fail

-- ---- before anything is asked

-- what speaks early against a notarization of an open store at these clock seconds
abbrev pub early_over : Option statements.Database → ℕ → Option AuditFail
early_over None now = None
early_over (Some store) now = early_fault (statements.tail_of_database store) false now

-- and against a line
abbrev pub early_of : World → Line → ℕ → Option AuditFail
early_of w (lines.Plain stmts.Notarize) now = early_over w.store now
early_of w line now = None

-- A fault comes only where nothing speaks early against the line: else no device is used, and only memory may want.
abbrev pub EndsTimely : Option AuditFail → LineFail → Type 0
EndsTimely early fails.NoMemory = Unit {0}
EndsTimely early fail = early ≡ None

-- ---- while an audit goes on

-- the line is a piece of an audit behind which some items are left: it asks the notary nothing
abbrev pub audit_goes_on : World → Line → Bool
audit_goes_on w (lines.Plain stmts.Audit) = has_more w
audit_goes_on w line = false

-- So a fault of the notary comes only where no audit goes on.
abbrev pub EndsUnasked : Bool → LineFail → Type 0
EndsUnasked goes_on fails.NotaryFault = goes_on ≡ false
EndsUnasked goes_on fail = Unit {0}

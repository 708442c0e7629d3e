-- A line that tells of no alteration.
use Rattle.std.specs.Prelude.{◌≡◌, ◌⊎◌, ℕ, None, IfSome, Result, Ok}
use Rattle.std.specs.Bool.{OnFalse}
use Rattle.stmt_text.specs.declared.stmt.Stmt.TheVariants as stmts
use Rattle.stmt_text.specs.declared.line.Line.{Line}
use Rattle.stmt_text.specs.declared.line.Line.TheVariants as lines
use Rattle.history_model.specs.History.{History}
use Rattle.validator.specs.declared.verdict.Verdict.{Verdict}
use Rattle.validator.specs.declared.verdict.Verdict.TheVariants as verdicts
use Rattle.validator.specs.declared.fail.AuditFail.{AuditFail}
use Rattle.validator.specs.Notarizing.{filed_fault}
use Rattle.forensic_report.specs.Finding.{IsSoundAnalysis}
use Rattle.store_world.specs.World.{World, history_of}
use Rattle.store_world.specs.Found.{Found}
use Rattle.store_world.specs.Steps.{filed_for, has_more}

-- a verdict that tells of no alteration
abbrev pub IsSoundVerdict : Result Verdict AuditFail → Type 0
IsSoundVerdict found = (found ≡ Ok verdicts.Unsealed) ⊎ ((n : ℕ) × (found ≡ Ok (verdicts.Clean n)))

-- what is filed speaks against nothing
abbrev pub IsNotFaulted : World → History → Type 0
IsNotFaulted w held = filed_fault (filed_for w) held ≡ None

-- A validation finds that nothing is altered, and so does the last piece of an audit. A notarization and a policy are not refused
-- for what is filed: neither as broken, nor for a seal that is missing. An analysis reports no alteration, or it is refused, as the
-- era is none of the store, or a tile of the range lacks the chains.
abbrev pub TellsNoAlteration : World → Line → Found → Type 0
TellsNoAlteration w (lines.Plain stmts.Validate) found = IsSoundVerdict found.verdict
TellsNoAlteration w (lines.Plain stmts.Audit) found = OnFalse (has_more w) (IsSoundVerdict found.verdict)
TellsNoAlteration w (lines.Plain (stmts.Analyse algorithm era)) found = IsSoundAnalysis found.analysis
TellsNoAlteration w (lines.Plain stmts.Notarize) found = IfSome (history_of w) (IsNotFaulted w)
TellsNoAlteration w (lines.Plain (stmts.Policy k algs)) found = IfSome (history_of w) (IsNotFaulted w)
TellsNoAlteration w line found = Unit {0}

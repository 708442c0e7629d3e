-- What kind of line a line is.
use Rattle.std.proofs.Common.{◌≡◌, ℕ, false, List, [], Option, None, Result, Ok, refl, ap}
use Rattle.stmt_text.specs.declared.stmt.LineAlgorithm.{LineAlgorithm}
use Rattle.stmt_text.specs.declared.stmt.Stmt.{Stmt}
use Rattle.stmt_text.specs.declared.stmt.Stmt.TheVariants as stmts
use Rattle.stmt_text.specs.declared.line.Line.{Line}
use Rattle.stmt_text.specs.declared.line.Line.TheVariants as lines
use Rattle.statement_core.specs.Database as statements
use Rattle.session_model.specs.Standing.{IsOfStore, IsStatementLine}
use Rattle.validator.specs.declared.verdict.Verdict.{Verdict}
use Rattle.validator.specs.declared.verdict.Verdict.TheVariants as verdicts
use Rattle.validator.specs.declared.fail.AuditFail.{AuditFail}
use Rattle.forensic_report.specs.declared.fail.AnalyseFail.{AnalyseFail}
use Rattle.forensic_report.specs.Analysis.{Analysis, Unsealed}
use Rattle.stmt_text.specs.Kinds.{line_kind}
use Rattle.store_world.specs.World.{World}
use Rattle.store_world.specs.Found.{Found}
use Rattle.store_world.specs.LineCalls.{notarize_calls, validate_calls, audit_calls, notary_calls}
use Rattle.store_world.specs.Faults.{early_of, audit_goes_on}
use Rattle.validator.specs.Notarizing.{Heard}
use Rattle.validator.specs.Steps.{counted}
use Rattle.store_world.specs.Steps.{step, on_tables, notarized, turned, validated, has_more, piece_audited, analysed, algorithm_of}
use Rattle.store_world.specs.Finding.{MayTell, MayFind}

-- what stands for a find where nothing is looked for
abbrev pub none_found : Found
none_found = record { heard = counted 0; refusal = None; verdict = Ok verdicts.Unsealed; analysis = Ok (Unsealed None); body = [] }

-- what a notarization or a policy heard, and why not all was taken
abbrev pub heard_so : Heard → Option AuditFail → Found
heard_so heard refusal = record none_found { heard = heard; refusal = refusal }

-- what a validation found, and what an analysis did
abbrev pub judged : Result Verdict AuditFail → Option AuditFail → Found
judged verdict refusal = record none_found { verdict = verdict; refusal = refusal }

abbrev pub shown : Result Analysis AnalyseFail → List ℕ → Found
shown analysis body = record none_found { analysis = analysis; body = body }

-- it goes to the tables or to a session, finds nothing, calls no notary, nothing speaks early against it, and it is no piece of an audit
pub record GoesToTables (line : Line) : Type 0 where
  pub steps : (w : World) (now : ℕ) (found : Found) → step w line now found ≡ on_tables w w.store line now
  pub tells : (w : World) (found : Found) → MayTell w line found
  pub may : (w : World) (now : ℕ) (found : Found) → MayFind w line now found
  pub calls : (w : World) (now : ℕ) (found : Found) → notary_calls w line now found ≡ []
  pub early : (w : World) (now : ℕ) → early_of w line now ≡ None
  pub pieces : (w : World) → audit_goes_on w line ≡ false
  pub kind : IsOfStore (line_kind line)

stmt_goes : (stmt : Stmt) → IsStatementLine (lines.Plain stmt) → GoesToTables (lines.Plain stmt)
unfolding step notary_calls
stmt_goes stmts.Begin on = absurd on
stmt_goes stmts.Commit on = absurd on
stmt_goes stmts.Abort on = absurd on
stmt_goes stmts.Notarize on = absurd on
stmt_goes (stmts.Policy k algs) on = absurd on
stmt_goes stmts.Validate on = absurd on
stmt_goes stmts.Audit on = absurd on
stmt_goes (stmts.Analyse algorithm era) on = absurd on
stmt_goes (stmts.Now moment) on = absurd on
stmt_goes stmt on = record { steps = λ w now found. refl; tells = λ w found. tt; may = λ w now found. tt; calls = λ w now found. refl; early = λ w now. refl; pieces = λ w. refl; kind = tt }

pub goes_to_tables : (line : Line) → IsStatementLine line → GoesToTables line
unfolding step notary_calls
goes_to_tables (lines.Plain stmt) on = stmt_goes stmt on
goes_to_tables lines.Blank on = absurd on
goes_to_tables (lines.InSession session stmt) on = record { steps = λ w now found. refl; tells = λ w found. tt; may = λ w now found. tt; calls = λ w now found. refl; early = λ w now. refl; pieces = λ w. refl; kind = tt }
goes_to_tables (lines.Drill event) on = absurd on

-- ---- the other lines of a world

module _ (w : World) (now : ℕ) where
  pub notarize_step : (heard : Heard) (refusal : Option AuditFail) → step w (lines.Plain stmts.Notarize) now (heard_so heard refusal) ≡ notarized w w.store now heard refusal
  unfolding step
  notarize_step heard refusal = refl

  pub notarize_none : (heard : Heard) (refusal : Option AuditFail) → w.store ≡ None → notary_calls w (lines.Plain stmts.Notarize) now (heard_so heard refusal) ≡ []
  unfolding notary_calls
  notarize_none heard refusal none = ap (λ (o : Option statements.Database). notarize_calls w o now heard) none

  pub turn_step : (heard : Heard) (k algs : ℕ) → step w (lines.Plain (stmts.Policy k algs)) now (heard_so heard None) ≡ turned w w.store heard k algs
  unfolding step
  turn_step heard k algs = refl

  pub turn_none : (heard : Heard) (k algs : ℕ) → notary_calls w (lines.Plain (stmts.Policy k algs)) now (heard_so heard None) ≡ []
  unfolding notary_calls
  turn_none heard k algs = refl

  pub validate_step : (verdict : Result Verdict AuditFail) (refusal : Option AuditFail) → step w (lines.Plain stmts.Validate) now (judged verdict refusal) ≡ validated w now verdict refusal
  unfolding step
  validate_step verdict refusal = refl

  pub validate_notes : (verdict : Result Verdict AuditFail) (refusal : Option AuditFail) → notary_calls w (lines.Plain stmts.Validate) now (judged verdict refusal) ≡ validate_calls w now verdict
  unfolding notary_calls
  validate_notes verdict refusal = refl

  pub audit_step : (verdict : Result Verdict AuditFail) (refusal : Option AuditFail) → step w (lines.Plain stmts.Audit) now (judged verdict refusal) ≡ piece_audited (has_more w) w now verdict refusal
  unfolding step
  audit_step verdict refusal = refl

  pub audit_notes : (verdict : Result Verdict AuditFail) (refusal : Option AuditFail) → notary_calls w (lines.Plain stmts.Audit) now (judged verdict refusal) ≡ audit_calls (has_more w) w now verdict
  unfolding notary_calls
  audit_notes verdict refusal = refl

  pub analyse_step : (algorithm : LineAlgorithm) (era : Option ℕ) (analysis : Result Analysis AnalyseFail) (report : List ℕ) → step w (lines.Plain (stmts.Analyse algorithm era)) now (shown analysis report) ≡ analysed w (algorithm_of algorithm) analysis report
  unfolding step
  analyse_step algorithm era analysis report = refl

  pub analyse_none : (algorithm : LineAlgorithm) (era : Option ℕ) (analysis : Result Analysis AnalyseFail) (report : List ℕ) → notary_calls w (lines.Plain (stmts.Analyse algorithm era)) now (shown analysis report) ≡ []
  unfolding notary_calls
  analyse_none algorithm era analysis report = refl

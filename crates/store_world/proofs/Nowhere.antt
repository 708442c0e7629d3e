-- A line where there is no store.
use Rattle.std.proofs.Common.{◌≡◌, ◌≢◌, ℕ, Bool, List, [], Option, Some, None, Result, IfOk, IfErr, IfSome, IsOk, refl, sym, ap, subst, ◌∙◌}
use Rattle.std.specs.Option.{is_some}
use Rattle.std.proofs.lemmas.Bool.{OnTrue_from}
use Rattle.outside_words.proofs.Told.{told_same}
use Rattle.disk_words.specs.Disk.{State, turn}
use Rattle.notary_link.specs.Notary as notaries
use Rattle.stmt_text.specs.declared.stmt.Stmt.{Stmt}
use Rattle.stmt_text.specs.declared.stmt.Stmt.TheVariants as stmts
use Rattle.stmt_text.specs.declared.line.Line.{Line}
use Rattle.stmt_text.specs.declared.line.Line.TheVariants as lines
use Rattle.stmt_text.specs.Kinds.{line_kind}
use Rattle.session_model.specs.Standing.{IsStatementLine}
use Rattle.statement_core.specs.Database as statements
use Rattle.statement_core.proofs.Untouched.{unchanged_same}
use Rattle.validator.specs.Desk.{desk}
use Rattle.validator.specs.Steps.{counted}
use Rattle.audit_steps.specs.declared.auditing.Auditing.{Auditing}
use Rattle.store_world.specs.declared.answered.Answered.{Answered}
use Rattle.store_world.specs.declared.fail.LineFail.{LineFail}
use Rattle.store_world.specs.declared.fail.LineFail.TheVariants as fails
use Rattle.store_world.specs.World.{World}
use Rattle.store_world.specs.Standing.{IsIn, StoreIsIn}
use Rattle.store_world.specs.Answers.{refusal}
use Rattle.store_world.specs.Finding.{MayTell, IsHeard, MayFile, MayFind}
use Rattle.store_world.specs.Faults.{early_of, audit_goes_on}
use Rattle.store_world.specs.Parts.{no_store}
use Rattle.store_world.specs.ByBytes.{NeedsStore}
use Rattle.store_world.specs.Steps.{Step, step, why_none, has_no_store, on_tables, notarized, turned}
use Rattle.store_world.specs.LineCalls.{notary_calls}
use Rattle.store_world.specs.CallsMade.{MakesLineCalls}
use Rattle.store_world.specs.Stepping.{Goes, StepsFor}
use Rattle.store_world.proofs.CallsTold.{calls_none}
use Rattle.store_world.proofs.Faults.{ends_wanting, ends_wanting_early, ends_wanting_unasked}
use Rattle.store_world.proofs.LineKinds.{none_found, GoesToTables, goes_to_tables, notarize_step, notarize_none, turn_step, turn_none}
use Rattle.store_world.proofs.Left.{given, stays_same, left, files_still, beside_by, beside_same}
use Rattle.store_world.proofs.Validating.{replies_as}

has_none : (w : World) (id : ℕ) (is_old : Bool) (auditing : Option Auditing) (bytes : List ℕ) → IsIn w (no_store id is_old auditing) bytes → w.store ≡ None
has_none w id is_old auditing bytes i = by w.store refl i.store
  where
    by : (o : Option statements.Database) → w.store ≡ o → StoreIsIn w.id o w.sessions None bytes → w.store ≡ None
    by None is none = is
    by (Some ws) is none = absurd none

-- the line is refused, finds nothing and calls no notary
record Refuses (w : World) (now : ℕ) (line : Line) : Type 0 where
  pub tells : MayTell w line none_found
  pub may : MayFind w line now none_found
  pub step_is : step w line now none_found ≡ has_no_store w
  pub calls : notary_calls w line now none_found ≡ []

module _ (w : World) (now : ℕ) (none : w.store ≡ None) where
  on_no_tables : (line : Line) → GoesToTables line → Refuses w now line
  on_no_tables line goes = record {
    tells = goes.tells w none_found;
    may = goes.may w now none_found;
    step_is = goes.steps w now none_found ∙ ap (λ (o : Option statements.Database). on_tables w o line now) none;
    calls = goes.calls w now none_found;
  }

  refuses_stmt : (stmt : Stmt) → NeedsStore (lines.Plain stmt) → Refuses w now (lines.Plain stmt)
  refuses_stmt stmts.Notarize needs = record {
    tells = (tt, tt);
    may = subst (λ (o : Option statements.Database). IfSome o (MayFile w now none_found)) (sym none) tt;
    step_is = notarize_step w now (counted 0) None ∙ ap (λ (o : Option statements.Database). notarized w o now (counted 0) None) none;
    calls = notarize_none w now (counted 0) None none;
  }
  refuses_stmt (stmts.Policy k algs) needs = record {
    tells = tt;
    may = subst (λ (o : Option statements.Database). IfSome o (IsHeard w none_found)) (sym none) tt;
    step_is = turn_step w now (counted 0) k algs ∙ ap (λ (o : Option statements.Database). turned w o (counted 0) k algs) none;
    calls = turn_none w now (counted 0) k algs;
  }
  refuses_stmt stmts.Validate needs = absurd needs
  refuses_stmt stmts.Audit needs = absurd needs
  refuses_stmt (stmts.Analyse algorithm era) needs = absurd needs
  refuses_stmt stmts.Begin needs = absurd needs
  refuses_stmt stmts.Commit needs = absurd needs
  refuses_stmt stmts.Abort needs = absurd needs
  refuses_stmt (stmts.Now moment) needs = absurd needs
  refuses_stmt stmt needs = on_no_tables (lines.Plain stmt) (goes_to_tables (lines.Plain stmt) tt)

  refuses : (line : Line) → NeedsStore line → Refuses w now line
  refuses (lines.Plain stmt) needs = refuses_stmt stmt needs
  refuses lines.Blank needs = absurd needs
  refuses (lines.InSession session stmt) needs = on_no_tables (lines.InSession session stmt) (goes_to_tables (lines.InSession session stmt) tt)
  refuses (lines.Drill event) needs = absurd needs

stmt_needs : (stmt : Stmt) → IsStatementLine (lines.Plain stmt) → NeedsStore (lines.Plain stmt)
stmt_needs stmts.Notarize on = absurd on
stmt_needs (stmts.Policy k algs) on = absurd on
stmt_needs stmts.Validate on = absurd on
stmt_needs stmts.Audit on = absurd on
stmt_needs (stmts.Analyse algorithm era) on = absurd on
stmt_needs stmts.Begin on = absurd on
stmt_needs stmts.Commit on = absurd on
stmt_needs stmts.Abort on = absurd on
stmt_needs (stmts.Now moment) on = absurd on
stmt_needs stmt on = tt

pub statement_needs : (line : Line) → IsStatementLine line → NeedsStore line
statement_needs (lines.Plain stmt) on = stmt_needs stmt on
statement_needs lines.Blank on = absurd on
statement_needs (lines.InSession session stmt) on = tt
statement_needs (lines.Drill event) on = absurd on

pub nowhere : (line : Line) → NeedsStore line → (id : ℕ) (is_old : Bool) (now : ℕ) (old : State) → ((c : List ℕ) → old.was_image (turn old) c → old.is_image c) → (filed : notaries.State) (result : Result Answered LineFail)
    → IfOk result (λ answered. answered ≡ refusal (why_none is_old)) → IfErr result (λ fail. fail ≡ fails.NoMemory) → (auditing : Option Auditing) → StepsFor line now result (no_store id is_old auditing) (no_store id is_old auditing) (desk old filed) (desk old filed)
nowhere line needs id is_old now old only_now filed result reply only_memory auditing =
    told_same old.reads old.reads _ refl
    (λ bytes w i.
    let r = refuses w now (has_none w id is_old auditing bytes i) line needs in
    record {
      found = none_found;
      may = given result r.tells;
      turn = given result tt;
      goes = subst (λ (x : Step). Goes w x result (no_store id is_old auditing) old old bytes bytes) (sym r.step_is)
          (left w (no_store id is_old auditing) old old bytes i (unchanged_same old) only_now (has_no_store w) result (stays_same w) refl
          (replies_as (has_no_store w) (refusal (why_none (is_some w.old_history))) result refl refl
          (subst (λ (b : Bool). IfOk result (λ answered. answered ≡ refusal (why_none b))) i.is_old reply)));
      only = ends_wanting ((step w line now none_found).world.store ≢ w.store) (line_kind line) result only_memory;
      timely = ends_wanting_early (early_of w line now) result only_memory;
      quiet = OnTrue_from (audit_goes_on w line) (filed ≡ filed) (λ goes. refl);
      unasked = ends_wanting_unasked (audit_goes_on w line) result only_memory;
      finds = beside_by w (desk old filed) (desk old filed) _ (λ lists later was is beside. r.may);
      files = beside_same w (desk old filed) (desk old filed) refl _ (λ lists beside. files_still w (step w line now none_found).world (IsOk result) old old bytes bytes lists (ap (λ (x : Step). x.world.lists) r.step_is) beside.lists);
      makes = beside_by w (desk old filed) (desk old filed) _ (λ lists later was is beside. subst (λ (x : Step). MakesLineCalls w line now none_found x result (desk old filed) (desk old filed) bytes) (sym r.step_is)
          (calls_none w line now none_found (has_no_store w) refl bytes result old old refl filed filed r.calls (told_same filed.trace filed.trace _ refl (λ was. refl))));
    })

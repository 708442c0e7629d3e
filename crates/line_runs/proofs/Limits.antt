-- No line changes the limits of the notary.
use Rattle.std.proofs.Common.{◌≡◌, ◌∙◌, ℕ, Bool, true, false, List, Option, Some, None, Result, Ok, Err, refl, sym, ap, subst}
use Rattle.notary_link.specs.declared.mark.Mark.{Mark}
use Rattle.stmt_text.specs.declared.error.ParseFail.{ParseFail}
use Rattle.stmt_text.specs.declared.error.ParseFail.TheVariants as parse_fails
use Rattle.stmt_text.specs.declared.line.Line.{Line}
use Rattle.stmt_text.specs.declared.kind.LineKind.{LineKind}
use Rattle.stmt_text.specs.declared.kind.LineKind.TheVariants as kinds
use Rattle.stmt_text.specs.Kinds.{line_kind}
use Rattle.stmt_text.specs.Lines.{answer}
use Rattle.statement_core.specs.Database as statements
use Rattle.validator.specs.declared.verdict.Verdict.{Verdict}
use Rattle.validator.specs.declared.fail.AuditFail.{AuditFail}
use Rattle.validator.specs.Notarizing.{Heard}
use Rattle.validator.specs.Verdicts.{mark_of}
use Rattle.validator.specs.Texts.{verdict_text}
use Rattle.forensic_report.specs.declared.algorithm.Algorithm.{Algorithm}
use Rattle.forensic_report.specs.declared.fail.AnalyseFail.{AnalyseFail}
use Rattle.forensic_report.specs.Analysis.{Analysis}
use Rattle.store_world.specs.Found.{Found}
use Rattle.store_world.specs.World.{World}
use Rattle.store_world.specs.Steps.{Step, step, unless, on_tables, intent_in, carried_out, notarized, turn_in, turns_world, turned, marked, validated, has_more, piece_audited, analysed, algorithm_of}
use Rattle.store_world.proofs.Validating.{validated_anew}
use Rattle.store_world.proofs.Acknowledging.{by_line}
use Rattle.line_runs.specs.Running.{Running, Timed, carry, answered, said_by, set_moment, seconds_of}
use Rattle.line_runs.proofs.Nothing.{carry_is}

module _ (w : World) where
  abbrev Keeps : Step → Type 0
  Keeps s = s.world.limits ≡ w.limits

  unless_keeps : (fault : Option AuditFail) (new : World) (s : Step) → new.limits ≡ w.limits → Keeps s → Keeps (unless fault new s)
  unless_keeps (Some fail) new s one other = one
  unless_keeps None new s one other = other

  of_tables : (o : Option statements.Database) (line : Line) (now : ℕ) → Keeps (on_tables w o line now)
  of_tables None line now = refl
  of_tables (Some store) line now = refl

  of_notarize : (o : Option statements.Database) (now : ℕ) (heard : Heard) (refusal : Option AuditFail) → Keeps (notarized w o now heard refusal)
  of_notarize None now heard refusal = refl
  of_notarize (Some store) now heard refusal =
      let i = intent_in store now heard in
      unless_keeps i.fault w (carried_out w store i refusal) refl (unless_keeps refusal _ _ refl refl)

  of_policy : (o : Option statements.Database) (heard : Heard) (k algs : ℕ) → Keeps (turned w o heard k algs)
  of_policy None heard k algs = refl
  of_policy (Some store) heard k algs =
      let t = turn_in store heard k algs in
      unless_keeps t.fault w (turns_world w store t) refl refl

  of_mark : (m : Option Mark) (refusal : Option AuditFail) (text : List ℕ) → Keeps (marked w m refusal text)
  of_mark None refusal text = refl
  of_mark (Some mark) refusal text = unless_keeps refusal w _ refl refl

  of_validate : (now : ℕ) (found : Result Verdict AuditFail) (refusal : Option AuditFail) → Keeps (validated w now found refusal)
  of_validate now (Ok verdict) refusal = of_mark (mark_of verdict now) refusal (verdict_text verdict)
  of_validate now (Err fail) refusal = refl

  of_audit : (b : Bool) (now : ℕ) (found : Result Verdict AuditFail) (refusal : Option AuditFail) → Keeps (piece_audited b w now found refusal)
  of_audit true now found refusal = refl
  of_audit false now found refusal = subst Keeps (sym (validated_anew w 0 now found refusal)) (of_validate now found refusal)

  of_analyse : (algorithm : Algorithm) (found : Result Analysis AnalyseFail) (body : List ℕ) → Keeps (analysed w algorithm found body)
  of_analyse algorithm (Ok a) body = refl
  of_analyse algorithm (Err fail) body = refl

pub step_limits : (w : World) (line : Line) (now : ℕ) (found : Found) → (step w line now found).world.limits ≡ w.limits
step_limits w line now found = by_line (λ line s. s.world.limits ≡ w.limits) w line now found (λ line. of_tables w w.store line now)
    (of_notarize w w.store now found.heard found.refusal) (of_policy w w.store found.heard) (of_validate w now found.verdict found.refusal)
    (of_audit w (has_more w) now found.verdict found.refusal) (λ algorithm era. of_analyse w (algorithm_of algorithm) found.analysis found.body)

module _ (scripted : Bool) (now : ℕ) (found : Found) (r : Running) where
  of_moment : (b : Bool) (moment : ℕ) → (set_moment b r moment).world.limits ≡ r.world.limits
  of_moment true moment = refl
  of_moment false moment = refl

  of_kind : (kind : LineKind) (line : Line) → (said_by kind scripted now found r line).world.limits ≡ r.world.limits
  of_kind kinds.Blank line = refl
  of_kind (kinds.InWorld part) line = step_limits r.world line now found
  of_kind (kinds.SetsMoment moment) line = of_moment scripted moment
  of_kind kinds.OutsideScripts line = refl

  of_reading : (x : Result Line ParseFail) → (answered scripted now found r x).world.limits ≡ r.world.limits
  of_reading (Ok line) = of_kind (line_kind line) line
  of_reading (Err parse_fails.Syntax) = refl
  of_reading (Err parse_fails.NumberTooWide) = refl
  of_reading (Err parse_fails.NoMemory) = refl

pub carry_limits : (scripted : Bool) (r : Running) (t : Timed) → (carry scripted r t).world.limits ≡ r.world.limits
carry_limits scripted r t = ap (λ (x : Running). x.world.limits) (carry_is scripted r t (answer t.line) refl) ∙ of_reading scripted (seconds_of scripted r t.second) t.found r (answer t.line)

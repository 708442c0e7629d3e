-- A line that is none: nothing is said, and the run stays where it is.
use Rattle.std.proofs.Common.{◌≡◌, ℕ, Bool, true, List, [], ◌∷◌, None, refl, ap, sym, subst, Result, Ok, Err}
use Rattle.stmt_text.specs.declared.error.ParseFail.{ParseFail}
use Rattle.stmt_text.specs.declared.line.Line.{Line}
use Rattle.stmt_text.specs.declared.line.Line.TheVariants as lines
use Rattle.stmt_text.specs.Lines.{answer, content_line, is_blank, without_return}
use Rattle.validator.specs.declared.fail.AuditFail.TheVariants as audits
use Rattle.forensic_report.specs.declared.fail.AnalyseFail.TheVariants as analyses
use Rattle.store_world.specs.Found.{Found}
use Rattle.store_world.specs.World.{World}
use Rattle.line_runs.specs.Running.{Running, Timed, carry, answered, seconds_of, FindsBy, EachFinds}

-- stands for what a line found that is neither a validation nor an analysis
abbrev pub no_finding : Found
no_finding = record { heard = record { count = 0; against = None }; refusal = None; verdict = Err audits.Full; analysis = Err analyses.NoMemory; body = [] }

abbrev pub nothing : Timed
nothing = record { line = []; second = 0; found = no_finding }

pub blank_nothing : is_blank (without_return []) ≡ true
unfolding without_return
blank_nothing = refl

pub blank_answer : (bytes : List ℕ) → is_blank (without_return bytes) ≡ true → answer bytes ≡ Ok lines.Blank
unfolding answer content_line
blank_answer bytes e = rw e refl

pub carry_is : (scripted : Bool) (r : Running) (t : Timed) (x : Result Line ParseFail) → answer t.line ≡ x → carry scripted r t ≡ answered scripted (seconds_of scripted r t.second) t.found r x
unfolding carry
carry_is scripted r t x e = ap (answered scripted (seconds_of scripted r t.second) t.found r) e

pub carry_nothing : (scripted : Bool) (r : Running) → carry scripted r nothing ≡ r
carry_nothing scripted r = carry_is scripted r nothing (Ok lines.Blank) (blank_answer [] blank_nothing)

-- it finds nothing
pub nothing_finds : (P : World → Line → ℕ → Found → Type 0) → ((w : World) (now : ℕ) → P w lines.Blank now no_finding) → (scripted : Bool) (r : Running) → EachFinds P scripted r (nothing ∷ [])
nothing_finds P blank scripted r = (subst (λ (x : Result Line ParseFail). FindsBy P r.world x (seconds_of scripted r 0) no_finding) (sym (blank_answer [] blank_nothing)) (blank r.world (seconds_of scripted r 0)), tt)

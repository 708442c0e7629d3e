-- What was read is the next event, by what was done with it.
use Rattle.std.proofs.Common.{◌∙◌, ◌≡◌, ℕ, true, false, Option, Some, None, Result, Ok, Err, refl, sym, ap, subst, arith}
use Rattle.std.specs.Prelude.{nat_le, codes, [], is_some}
use Rattle.std.proofs.lemmas.Bool.{le-leb}
use Rattle.stmt_text.specs.declared.error.ParseFail.{ParseFail}
use Rattle.stmt_text.specs.declared.error.ParseFail.TheVariants as parse_fails
use Rattle.stmt_text.specs.Reading.{IsAnswer}
use Rattle.stmt_text.specs.declared.event.Event.{Event}
use Rattle.stmt_text.specs.declared.stmt.Stmt.{Stmt}
use Rattle.stmt_text.specs.declared.stmt.Stmt.TheVariants as stmts
use Rattle.stmt_text.specs.declared.line.Line.{Line}
use Rattle.stmt_text.specs.declared.line.Line.TheVariants as lines
use Rattle.stmt_text.specs.declared.kind.LineKind.TheVariants as kinds
use Rattle.stmt_text.specs.Kinds.{stmt_kind, line_kind}
use Rattle.validator.specs.declared.verdict.Verdict.TheVariants as verdicts
use Rattle.forensic_report.specs.Analysis.{Unsealed}
use Rattle.store_world.specs.declared.answered.Answered.{Answered}
use Rattle.store_world.specs.Answers.{refusal}
use Rattle.store_world.specs.Found.{Found}
use Rattle.timeline_model.specs.Scene.{Scene, Crash, world_of}
use Rattle.timeline_model.specs.Lines.{Next, Act, quiet, says, refuses, brings, act}
use Rattle.timeline_model.specs.Timeline.{IsReading, FitsReading, MayBeFound, calls_in, crashed, stopped, crashed_behind, under, without_crash, name_of, act_on, step}
use Rattle.drill_core.specs.declared.machine.Crash as code
use Rattle.drill_core.specs.declared.machine.Drill.{Drill}
use Rattle.drill_core.specs.Drills.{crash_of, bare_of, NoneFails, FailsOnce, IsLeft, IsAt, IsBehind}
use Rattle.drill_core.specs.Devices.{EntersAnew}
use Rattle.drill_core.proofs.Ready.{with_rest}
use Rattle.drill_core.specs.Taken.{Follows, IsActed, IsEvent, IsAnswered}

-- ---- under a crash

pub under_whole : (t : Scene) (crash : Crash) (a : Act) → nat_le (calls_in a) crash.after ≡ true → under (Some crash) t a ≡ crashed_behind a.next
under_whole t crash a passes = rw passes refl

pub under_stopped : (t : Scene) (crash : Crash) (a : Act) → nat_le (calls_in a) crash.after ≡ false → under (Some crash) t a ≡ crashed (stopped t crash a)
under_stopped t crash a stops = rw stops refl

-- a line without a changing call
pub under_quiet : (t : Scene) (crash : Crash) (next : Next) → under (Some crash) t (quiet next) ≡ crashed_behind next
under_quiet t crash next = under_whole t crash (quiet next) (le-leb 0 crash.after (omega arith))

-- ---- what is next

module _ (answered : Answered) (d later : Drill) where
  pub next_on : (At : Scene → Drill → Type 0) (next other : Next) → other ≡ next → Follows At next answered d later → Follows At other answered d later
  next_on At next other same f = subst (λ (x : Next). Follows At x answered d later) (sym same) f

  -- a line without a changing call is carried out under any crash
  pub quiet_follows : (crash : Option Crash) (t : Scene) (next : Next) → Follows IsAt next answered d later → Follows (IsBehind crash) (under crash t (quiet next)) answered d later
  quiet_follows None t next f = record { at = f.at; text = f.text; refused = f.refused; faults = f.faults }
  quiet_follows (Some crash) t next f = next_on (IsBehind (Some crash)) (crashed_behind next) (under (Some crash) t (quiet next)) (under_quiet t crash next)
      (record { at = f.at.left; text = f.text; refused = f.refused; faults = f.faults })

-- this was replied, and nothing else has changed
pub replied_only : (t : Scene) (d : Drill) (answered : Answered) (next : Next) → IsAt t d → next.scene ≡ t → answered.text ≡ next.text → answered.refused ≡ next.is_refused → Follows IsAt next answered d d
replied_only t d answered next at same text refused = record { at = subst (λ (s : Scene). IsAt s d) (sym same) at; text = text; refused = refused; faults = omega arith }

-- a refusal
pub refused_only : (t : Scene) (d : Drill) (answered : Answered) (name : _) → IsAt t d → answered ≡ refusal name → Follows IsAt (refuses t name) answered d d
refused_only t d answered name at is = replied_only t d answered (refuses t name) at refl (ap (λ (a : Answered). a.text) is) (ap (λ (a : Answered). a.refused) is)

-- ---- what is found by a line that finds nothing

pub any_found : Found
any_found = record { heard = record { count = 0; against = None }; refusal = None; verdict = Ok verdicts.Unsealed; analysis = Ok (Unsealed None); body = [] }

module _ (t : Scene) where
  may_fail : (o : Option ℕ) (fail : ParseFail) → MayBeFound o t (Err fail) any_found
  may_fail None fail = tt
  may_fail (Some id) fail = tt

  may_drill : (o : Option ℕ) (event : Event) → MayBeFound o t (Ok (lines.Drill event)) any_found
  may_drill None event = tt
  may_drill (Some id) event = tt

  may_now : (o : Option ℕ) (moment : ℕ) → MayBeFound o t (Ok (lines.Plain (stmts.Now moment))) any_found
  may_now None moment = tt
  may_now (Some id) moment = tt

  -- a pending crash says nothing of it
  may_on : (o : Option ℕ) (reading : Result Line ParseFail) (found : Found) → MayBeFound o (without_crash t) reading found → MayBeFound o t reading found
  unfolding world_of
  may_on None reading found may = tt
  may_on (Some id) (Ok line) found may = may
  may_on (Some id) (Err fail) found may = tt

-- ---- what was read

module _ (crash : Option Crash) (t : Scene) (answered : Answered) (d later : Drill) where
  pub acted_as : (reading other : Result Line ParseFail) → reading ≡ other → IsActed crash other t answered d later → IsActed crash reading t answered d later
  acted_as reading other is a = subst (λ (r : Result Line ParseFail). IsActed crash r t answered d later) (sym is) a

  -- no line
  pub refused_acted : (fail : ParseFail) → Follows IsAt (refuses t (name_of fail)) answered d later → IsActed crash (Err fail) t answered d later
  refused_acted fail f = record { found = any_found; may = may_fail t t.id fail; follows = quiet_follows answered d later crash t (refuses t (name_of fail)) f }

  -- an event
  pub event_acted : (event : Event) (line : Line) → line ≡ lines.Drill event → Follows (IsBehind crash) (under crash t (brings t event)) answered d later → IsActed crash (Ok line) t answered d later
  unfolding act
  event_acted event line is f = acted_as (Ok line) (Ok (lines.Drill event)) (ap (λ (l : Line). Ok l) is) (record { found = any_found; may = may_drill t t.id event; follows = f })

  -- a clock that is set
  pub clock_acted : (moment : ℕ) (line : Line) → line ≡ lines.Plain (stmts.Now moment) → Follows IsAt (says (record t { clock = moment }) (codes "ok")) answered d later → IsActed crash (Ok line) t answered d later
  unfolding act
  clock_acted moment line is f = acted_as (Ok line) (Ok (lines.Plain (stmts.Now moment))) (ap (λ (l : Line). Ok l) is)
      (record { found = any_found; may = may_now t t.id moment; follows = quiet_follows answered d later crash t (says (record t { clock = moment }) (codes "ok")) f })

  -- an event without a changing call
  pub quiet_brought : (event : Event) (next : Next) → brings t event ≡ quiet next → Follows IsAt next answered d later → Follows (IsBehind crash) (under crash t (brings t event)) answered d later
  quiet_brought event next is f = next_on answered d later (IsBehind crash) (under crash t (quiet next)) (under crash t (brings t event)) (ap (under crash t) is) (quiet_follows answered d later crash t next f)

-- ---- a line that sets the moment is that one

moment_stmt : (stmt : Stmt) (moment : ℕ) → stmt_kind stmt ≡ kinds.SetsMoment moment → lines.Plain stmt ≡ lines.Plain (stmts.Now moment)
moment_stmt (stmts.Now n) moment is = cc
moment_stmt stmt moment is = cc

pub moment_line : (line : Line) (moment : ℕ) → line_kind line ≡ kinds.SetsMoment moment → line ≡ lines.Plain (stmts.Now moment)
moment_line (lines.Plain stmt) moment is = moment_stmt stmt moment is
moment_line line moment is = cc

-- ---- the store is entered anew

module _ (next : Next) (answered : Answered) (d mid later : Drill) (f : Follows IsLeft next answered d mid) (enters : EntersAnew mid later) where
  fields_then : next.scene ≡ bare_of later
  fields_then = f.at.fields ∙ sym enters.fields

  faults_then : FailsOnce d later
  faults_then = let g = enters.faults in let few = f.faults in omega (arith, few, g)

  pub entered : Follows IsAt next answered d later
  entered = record { at = subst (λ (x : Scene). IsAt x later) (sym fields_then) enters.at; text = f.text; refused = f.refused; faults = faults_then }

  pub entered_behind : (crash : Option Crash) → Follows (IsBehind crash) next answered d later
  entered_behind None = record { at = entered.at; text = f.text; refused = f.refused; faults = faults_then }
  entered_behind (Some crash) = record { at = record { fields = fields_then; none_fails = enters.at.left.none_fails }; text = f.text; refused = f.refused; faults = faults_then }

-- ---- the next event

pub some_of : (crash : Option code.Crash) → is_some crash ≡ true → is_some (crash_of crash) ≡ true
some_of None some = some
some_of (Some crash) some = refl

pub none_of : (crash : Option code.Crash) → is_some crash ≡ false → crash_of crash ≡ None
none_of None none = refl
none_of (Some crash) none = absurd cc

pub none_fails_behind : (crash : Option Crash) (t : Scene) (d : Drill) → IsBehind crash t d → NoneFails d
none_fails_behind None t d at = at.left.none_fails
none_fails_behind (Some crash) t d at = at.none_fails

-- the crash is taken: what follows is told of the drill before
from_rest : (next : Next) (answered : Answered) (d later : Drill) (clock : ℕ) (crash : Option code.Crash) → Follows IsAt next answered (with_rest d clock crash) later → Follows IsAt next answered d later
from_rest next answered d later clock crash f = record { at = f.at; text = f.text; refused = f.refused; faults = f.faults }

module _ (reading : Result Line ParseFail) (t : Scene) (answered : Answered) (d : Drill) (of_reading : IsReading reading) (fits : FitsReading reading) (crash : Option Crash) (is : t.crash ≡ crash) (o : Option Crash) (o_is : o ≡ None) (taken : Option code.Crash) where
  abbrev without : Drill
  without = with_rest d d.clock taken

  event_of : (later : Drill) (found : Found) → MayBeFound t.id (without_crash t) reading found → Follows IsAt (under crash (without_crash t) (act_on (without_crash t) reading found)) answered without later → IsEvent reading t answered d later
  unfolding step
  event_of later found may f = record {
    found = found;
    may = record { line = of_reading; fits = fits; found = may_on t t.id reading found may };
    follows = next_on answered d later IsAt (under crash (without_crash t) (act_on (without_crash t) reading found)) (under t.crash (without_crash t) (act_on (without_crash t) reading found))
        (ap (λ (c : Option Crash). under c (without_crash t) (act_on (without_crash t) reading found)) is)
        (from_rest (under crash (without_crash t) (act_on (without_crash t) reading found)) answered d later d.clock taken f);
  }

  abbrev acted_under : Option Crash → Drill → Type 0
  acted_under c mid = IsActed c reading (record t { crash = o }) answered without mid

  then_taken : (c : Option Crash) (mid : Drill) → acted_under c mid → IsActed c reading (without_crash t) answered without mid
  then_taken c mid a = subst (λ (x : Option Crash). IsActed c reading (record t { crash = x }) answered without mid) o_is a

  -- under no crash
  pub whole_event : (later : Drill) → crash ≡ None → acted_under crash later → IsEvent reading t answered d later
  whole_event later none acted =
      let a = then_taken crash later acted in
      event_of later a.found a.may (by crash none (under crash (without_crash t) (act_on (without_crash t) reading a.found)) a.follows)
    where
      by : (c : Option Crash) → c ≡ None → (next : Next) → Follows (IsBehind c) next answered without later → Follows IsAt next answered without later
      by None e next f = record { at = f.at; text = f.text; refused = f.refused; faults = f.faults }
      by (Some c) e next f = absurd cc

  -- under one, the store is entered anew
  pub entered_event : (mid later : Drill) → is_some crash ≡ true → acted_under crash mid → EntersAnew mid later → IsEvent reading t answered d later
  entered_event mid later some acted enters =
      let a = then_taken crash mid acted in
      event_of later a.found a.may (entered (under crash (without_crash t) (act_on (without_crash t) reading a.found)) answered without mid later (by crash some (under crash (without_crash t) (act_on (without_crash t) reading a.found)) a.follows) enters)
    where
      by : (c : Option Crash) → is_some c ≡ true → (next : Next) → Follows (IsBehind c) next answered without mid → Follows IsLeft next answered without mid
      by None e next f = absurd cc
      by (Some c) e next f = record { at = f.at; text = f.text; refused = f.refused; faults = f.faults }

-- what was read of a line, where it is one to take
read_is : (reading expected : Result Line ParseFail) → IsAnswer reading expected → IsReading reading → expected ≡ reading
read_is (Ok line) expected is of_reading = is
read_is (Err parse_fails.Syntax) expected is of_reading = is
read_is (Err parse_fails.NumberTooWide) expected is of_reading = is
read_is (Err parse_fails.NoMemory) expected is of_reading = absurd of_reading

-- so what is answered to it is answered to the line
pub answered_as : (reading expected : Result Line ParseFail) (t : Scene) (answered : Option Answered) (d later : Drill) → IsAnswer reading expected → IsAnswered reading t answered d later → IsAnswered expected t answered d later
answered_as reading expected t None d later is (blank, same) = (subst (λ (r : Result Line ParseFail). IsAnswer r expected) blank is, same)
answered_as reading expected t (Some answered) d later is event = subst (λ (r : Result Line ParseFail). IsEvent r t answered d later) (sym (read_is reading expected is event.may.line)) event

-- What a line does to the scene that a drill stands for.
use Rattle.std.specs.Prelude.{codes, if◌then◌else◌, Bool, true, false, ◌≡◌, ◌≢◌, ℕ, List, [], length, Option, Some, None, Result, Ok, IfOk}
use Rattle.tuple_bytes.specs.declared.header.Header.{Header}
use Rattle.stmt_text.specs.declared.error.ParseFail.{ParseFail}
use Rattle.stmt_text.specs.declared.line.Line.{Line}
use Rattle.stmt_text.specs.declared.line.Line.TheVariants as lines
use Rattle.txn_journal.specs.Create.{is_free}
use Rattle.store_world.specs.declared.answered.Answered.{Answered}
use Rattle.store_world.specs.Found.{Found}
use Rattle.store_world.specs.Steps as world_steps
use Rattle.store_world.specs.Finding.{MayFind}
use Rattle.timeline_model.specs.Scene.{Scene, Crash, world_of}
use Rattle.timeline_model.specs.Lines.{Act, Next, quiet, refuses, makes}
use Rattle.store_world.specs.LineCalls.{disk_calls, notary_calls}
use Rattle.timeline_model.specs.Timeline.{IsReading, MayBeFound, MayCome, act_on, under, step}
use Rattle.drill_core.specs.declared.machine.Drill.{Drill}
use Rattle.drill_core.specs.Drills.{IsAt, IsBehind, FailsOnce}

-- P of whatever scene a drill stands for, and of what was answered
abbrev pub FromScene : {A E : Type 0} → Drill → Result A E → (Scene → A → Type 0) → Type 0
FromScene d result P = (t : Scene) → IsAt t d → IfOk result (P t)

-- ---- a line

-- The drill is at what is next, that was replied, and at most one call has failed.
pub record Follows (At : Scene → Drill → Type 0) (next : Next) (answered : Answered) (d later : Drill) : Type 0 where
  pub at : At next.scene later
  pub text : answered.text ≡ next.text
  pub refused : answered.refused ≡ next.is_refused
  pub faults : FailsOnce d later

-- what was read was carried out, or stopped by the crash that it was under
pub record IsActed (crash : Option Crash) (reading : Result Line ParseFail) (t : Scene) (answered : Answered) (d later : Drill) : Type 0 where
  pub found : Found
  pub may : MayBeFound t.id t reading found
  pub follows : Follows (IsBehind crash) (under crash t (act_on t reading found)) answered d later

-- a store with this header is made where the disk is free
abbrev pub making : Scene → Header → Act
making t h = if is_free t.bytes then makes t h else quiet (refuses t (codes "AlreadyThere"))

-- ---- an event

-- what was read is the next event
pub record IsEvent (reading : Result Line ParseFail) (t : Scene) (answered : Answered) (d later : Drill) : Type 0 where
  pub found : Found
  pub may : MayCome t (record { line = reading; found = found })
  pub follows : Follows IsAt (step t reading found) answered d later

-- a line was blank, or it is one to take
abbrev pub IsBlankOr : Bool → Result Line ParseFail → Type 0
IsBlankOr true reading = reading ≡ Ok lines.Blank
IsBlankOr false reading = IsReading reading

-- nothing is said to a blank line; any other is the next event
abbrev pub IsAnswered : Result Line ParseFail → Scene → Option Answered → Drill → Drill → Type 0
IsAnswered reading t None d later = (reading ≡ Ok lines.Blank) × (later ≡ d)
IsAnswered reading t (Some answered) d later = IsEvent reading t answered d later

-- ---- a reply

abbrev pub text_of : Option Answered → List ℕ
text_of None = []
text_of (Some answered) = answered.text

abbrev pub is_refused : Option Answered → Bool
is_refused None = false
is_refused (Some answered) = answered.refused

-- ---- a line of the world

-- where a line calls the notary by what it may find, so many calls of the disk come before that
abbrev pub ComeBefore : ℕ → Scene → Option ℕ → Line → Type 0
ComeBefore count t None line = Unit {0}
ComeBefore count t (Some id) line = (found : Found) → MayFind (world_of t id) line t.clock found → notary_calls (world_of t id) line t.clock found ≢ []
    → count ≡ length (disk_calls (world_of t id) (world_steps.step (world_of t id) line t.clock found) t.bytes)

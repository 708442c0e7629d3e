-- How the parts of `make` carry out the lines of a text at hand, and what they hand on.
use Rattle.std.specs.Prelude.{◌≡◌, ◌⊎◌, ℕ, true, List, ◌++◌, Option, Some, None, Result, Ok, Err, OnOk, IfOk}
use Rattle.store_world.specs.declared.fail.LineFail.{LineFail}
use Rattle.store_world.specs.declared.fail.LineFail.TheVariants as lines
use Rattle.store_world.specs.declared.open_store.OpenStore.{OpenStore}
use Rattle.workload_make.specs.Script.{script}
use Rattle.line_runs.specs.declared.make.LastTwo.{LastTwo}
use Rattle.line_runs.specs.declared.runner.Runner.{Runner}
use Rattle.line_runs.specs.declared.status.Status.{Status}
use Rattle.line_runs.specs.declared.status.Status.TheVariants as statuses
use Rattle.line_runs.specs.Devices.{Site, Effect}
use Rattle.line_runs.specs.Outcome.{Outcome}
use Rattle.line_runs.specs.OnStore.{EndsWanting}
use Rattle.line_runs.specs.Running.{Running, Timed, carried}
use Rattle.line_runs.specs.Ran.{RunsLines, IsNext, ending_by, text_before}
use Rattle.line_runs.specs.Carrying.{IsAt, FromWhere, of_line, status_of}
use Rattle.line_runs.specs.Made.{Makes, AreOfText, AreAll, IsPerhapsNext, made_line, all_but_two}

-- the script for a store that is open, of this runner's moment
abbrev pub width_of : Option OpenStore → ℕ
width_of None = 0
width_of (Some o) = o.store.header.width

abbrev pub script_for : Runner → ℕ → ℕ → List ℕ
script_for runner seed count = script (width_of runner.world.opened) runner.moment seed count

-- how many transactions are stored, where a store is open
abbrev pub stored_in : Option OpenStore → ℕ
stored_in None = 0
stored_in (Some o) = o.store.count

-- what a runner tells behind all lines
abbrev pub told_of : ℕ → Runner → LastTwo → Outcome
told_of count runner two = record {
  status = ending_by runner.refused;
  text = made_line count runner.refused (stored_in runner.world.opened) ++ (two.first ++ two.second);
}

-- the replies to the last two lines, between the text without these, the text without the last, and all
pub record AreLastTwo (without_two without_last all : List ℕ) (two : LastTwo) : Type 0 where
  pub second : all ≡ without_last ++ two.second
  pub first : without_last ≡ without_two ++ two.first

-- the status that stands for how the lines ended
abbrev pub line_status : {A : Type 0} → Result A LineFail → Status
line_status (Ok _) = statuses.Ok
line_status (Err fail) = status_of (of_line fail)

-- how far the lines of a text were carried out
abbrev pub Reaches : {A : Type 0} → List ℕ → List Timed → Timed → Result A LineFail → Type 0
Reaches text done next (Ok _) = AreAll done text
Reaches text done next (Err lines.NoMemory) = IsPerhapsNext done next text
Reaches text done next (Err fail) = IsNext done next text

-- The lines of a text were carried out from this beginning on, up to its end or a failure.
pub record MakesLines (text : List ℕ) (result : Result LastTwo LineFail) (last : Runner) (old new : Site) (begin : Running) (before after : List ℕ) : Type 0 where
  pub done : List Timed
  pub next : Timed
  pub first : AreOfText done next text
  pub reaches : Reaches text done next result
  pub lines : RunsLines true begin done next (line_status result) old new before after
  pub stands : OnOk result (IsAt (carried true begin done) last after)
  pub two : IfOk result (AreLastTwo (all_but_two begin done).text (text_before true begin done) (carried true begin done).text)

abbrev pub MakesLinesFrom : List ℕ → Result LastTwo LineFail → Runner → Runner → Site → Site → Type 0
MakesLinesFrom text result runner last old new = FromWhere runner old.desk new.desk (MakesLines text result last old new)

-- a text was carried out and told of
abbrev pub MakesTextFrom : ℕ → List ℕ → Runner → Effect
MakesTextFrom count text runner result old new = FromWhere runner old.desk new.desk (λ begin before after. Makes count begin text result old new before after)

-- the script was, or memory was wanting for it
abbrev pub MakesFrom : ℕ → ℕ → Runner → Effect
MakesFrom seed count runner result old new = EndsWanting result old new ⊎ MakesTextFrom count (script_for runner seed count) runner result old new

-- What a call has seen beside its output.
use Rattle.std.specs.Prelude.{◌≡◌, ℕ, Bool, Option, Some, None, Result, Ok, Err}
use Rattle.validator.specs.declared.verdict.Verdict.{Verdict}
use Rattle.validator.specs.declared.fail.AuditFail.{AuditFail}
use Rattle.line_runs.specs.declared.seen.Seen.{Seen}
use Rattle.line_runs.specs.declared.status.Status.{Status}
use Rattle.line_runs.specs.Devices.{Devices}
use Rattle.line_runs.specs.Sees.{SeesNothing, CountsRefusals, EndsByCount, SeesOn}
use Rattle.dragoon_app.specs.declared.command.Command.{Command}
use Rattle.dragoon_app.specs.declared.command.Command.TheVariants as commands
use Rattle.dragoon_app.specs.AllDevices.{AllDevices, Alone}
use Rattle.dragoon_app.specs.Audited.{ValidatesOn}

-- the verdict of an answer, where it is one
abbrev pub verdict_in : Result Verdict AuditFail → Option Verdict
verdict_in (Ok verdict) = Some verdict
verdict_in (Err fail) = None

-- the verdict that is seen is that of the validation, also where the output failed
pub record SeesVerdict (id : ℕ) (seen : Option Verdict) (result : Status) (old new : Devices) : Type 0 where
  pub validates : ValidatesOn id result old new
  pub verdict : seen ≡ verdict_in validates.answer

-- a run, of whose lines this was seen
pub record SeesRun (scripted : Bool) (id : ℕ) (seen : Seen) (result : Status) (old new : AllDevices) : Type 0 where
  pub refusals : CountsRefusals result seen
  pub lines : Alone (SeesOn scripted id seen) result old new

-- Of a run its lines are seen, of `make` how many are refused, of `validate` its verdict, and of other commands nothing.
abbrev pub Sees : Option Command → Seen → Status → AllDevices → AllDevices → Type 0
Sees (Some (commands.Run id scripted)) seen = SeesRun scripted id seen
Sees (Some (commands.Make id seed count)) seen = λ result old new. EndsByCount result seen.refused
Sees (Some (commands.Validate id)) seen = Alone (SeesVerdict id seen.verdict)
Sees command seen = λ result old new. SeesNothing seen

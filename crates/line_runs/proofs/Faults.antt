-- In which faults lines end.
use Rattle.std.proofs.Common.{◌≡◌, Bool, List, ℕ, sym, subst, Result, Ok, Err}
use Rattle.std.specs.Prelude.{IfErr}
use Rattle.stmt_text.specs.declared.kind.LineKind.{LineKind}
use Rattle.stmt_text.specs.declared.kind.LineKind.TheVariants as kinds
use Rattle.stmt_text.specs.declared.kind.WorldPart.TheVariants as parts
use Rattle.outside_io.specs.declared.sink.StreamFail.{StreamFail}
use Rattle.outside_io.specs.declared.sink.StreamFail.TheVariants as streams
use Rattle.line_input.specs.declared.fail.InputFail.{InputFail}
use Rattle.line_input.specs.declared.fail.InputFail.TheVariants as inputs
use Rattle.store_world.specs.declared.fail.LineFail.{LineFail}
use Rattle.store_world.specs.declared.fail.LineFail.TheVariants as fails
use Rattle.store_world.specs.Faults.{IsOfStoring, MayEndIn}
use Rattle.line_runs.specs.declared.status.Status.{Status}
use Rattle.line_runs.specs.Running.{Running, Timed}
use Rattle.line_runs.specs.Failing.{MayEndOn, MayEnd, EndsByUse}
use Rattle.store_world.specs.World.{World}
use Rattle.stmt_text.specs.declared.line.Line.{Line}
use Rattle.stmt_text.specs.Kinds.{line_kind}
use Rattle.line_runs.specs.Carrying.{ending, of_line, of_input, of_output}

-- ---- want of memory ends every line

module _ (stores : Type 0) where
  wanting : (kind : LineKind) → MayEndIn kind stores fails.NoMemory
  wanting kinds.Blank = tt
  wanting (kinds.InWorld parts.Tables) = tt
  wanting (kinds.InWorld parts.Sessions) = tt
  wanting (kinds.InWorld (parts.Notary asks)) = tt
  wanting (kinds.SetsMoment moment) = tt
  wanting kinds.OutsideScripts = tt

  pub ends_wanting : (line : Line) (w : World) (now : ℕ) (result : Result (List ℕ) LineFail) → IfErr result (λ fail. fail ≡ fails.NoMemory) → IfErr result (MayEndOn line w now stores)
  ends_wanting line w now (Ok text) only = tt
  ends_wanting line w now (Err fail) only = subst (MayEndOn line w now stores) (sym only) (wanting (line_kind line), tt, tt)

  pub ends_refused : (result : Result (List ℕ) LineFail) → IfErr result (λ fail. fail ≡ fails.NoMemory) → IfErr result (IsOfStoring stores)
  ends_refused (Ok text) only = tt
  ends_refused (Err fail) only = subst (IsOfStoring stores) (sym only) tt

-- ---- as a status

-- what is said of one status holds of another
abbrev pub KeepsUse : Status → Status → Type 0
KeepsUse s result = (scripted : Bool) (r : Running) (t : Timed) → EndsByUse s scripted r t → EndsByUse result scripted r t

module _ (scripted : Bool) (r : Running) (t : Timed) where
  pub uses_run : (fail : LineFail) → MayEnd scripted r t fail → EndsByUse (ending (Err (of_line fail))) scripted r t
  uses_run fails.DiskFault may = may
  uses_run fails.NotaryFault may = may
  uses_run fails.NoMemory may = tt

  pub uses_input : (fail : InputFail) → EndsByUse (ending (Err (of_input fail))) scripted r t
  uses_input inputs.ReadFault = tt
  uses_input inputs.InputLimit = tt
  uses_input inputs.NoMemory = tt

  pub uses_output : (fail : StreamFail) → EndsByUse (ending (Err (of_output fail))) scripted r t
  uses_output streams.Failed = tt
  uses_output streams.NoMemory = tt

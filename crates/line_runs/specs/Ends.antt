-- How a call may end, whatever its devices tell: by which statuses, and by which text a fault is named.
use Rattle.std.specs.Prelude.{◌==◌, Bool, List, [], ◌∷◌, IsTrue}
use Rattle.std.specs.List.{list_any}
use Rattle.outside_io.specs.Sink as sinks
use Rattle.line_runs.specs.declared.status.Status.{Status}
use Rattle.line_runs.specs.declared.status.Status.TheVariants as statuses
use Rattle.line_runs.specs.Texts.{status_code, fault_line}
use Rattle.line_runs.specs.Outcome.{EndsOut}

-- of the same kind, and so with the same number, whatever the detail
abbrev pub is_like : Status → Status → Bool
is_like s kind = status_code s == status_code kind

-- one of these kinds; the output may fail, and memory be wanting, whatever the call is
abbrev pub IsEndOf : List Status → Status → Type 0
IsEndOf kinds s = IsTrue (list_any (is_like s) (statuses.WriteFault ∷ statuses.NoMemory ∷ kinds))

-- a status that is told by a fault line
abbrev pub IsFault : Status → Type 0
IsFault statuses.Ok = ⊥
IsFault statuses.Altered = ⊥
IsFault statuses.Refused = ⊥
IsFault statuses.WriteFault = ⊥
IsFault statuses.NoMemory = ⊥
IsFault s = Unit {0}

-- The call ended by a status of one of its kinds. Where that is a fault, and the output tells what it holds, this ends with its line.
pub record Ends (kinds : List Status) (result : Status) (old new : sinks.State) : Type 0 where
  pub status : IsEndOf kinds result
  pub named : IsFault result → EndsOut (fault_line result) old new

-- ---- the rows

-- how a run may end of its own
abbrev pub run_ends : List Status
run_ends = statuses.Ok ∷ statuses.Refused ∷ statuses.NotAStore ∷ statuses.OldFormat ∷ statuses.InputLimit ∷ statuses.DiskFault ∷ statuses.NotaryFault ∷ statuses.ReadFault ∷ []

-- and `make`, which reads no input
abbrev pub make_ends : List Status
make_ends = statuses.Ok ∷ statuses.Refused ∷ statuses.NotAStore ∷ statuses.OldFormat ∷ statuses.DiskFault ∷ statuses.NotaryFault ∷ []

-- What a run writes, and how it ends.
use Rattle.std.specs.Prelude.{◌≡◌, ◌⊎◌, ℕ, List, ◌++◌}
use Rattle.outside_io.specs.Sink.{State, IsOut, FrontIsOut}
use Rattle.line_runs.specs.declared.status.Status.{Status}
use Rattle.line_runs.specs.declared.status.Status.TheVariants as statuses
use Rattle.line_runs.specs.Texts.{fault_line}

-- how a run ends, and all that it writes
pub record Outcome : Type 0 where
  pub status : Status
  pub text : List ℕ

-- a run that writes its fault line alone
abbrev pub refused : Status → Outcome
refused s = record { status = s; text = fault_line s }

-- a fault of the output and want of memory cut a text off
abbrev pub CutsOff : Status → Type 0
CutsOff s = (s ≡ statuses.WriteFault) ⊎ (s ≡ statuses.NoMemory)

-- This was answered and its text is out; or it was cut off, and a front of the text is out.
abbrev pub Said : Outcome → Status → State → State → Type 0
Said said s old new = ((s ≡ said.status) × IsOut said.text old new) ⊎ (CutsOff s × FrontIsOut said.text old new)

-- some text is out, or none, and then this line
abbrev pub EndsOut : List ℕ → State → State → Type 0
EndsOut line old new = (text : List ℕ) × IsOut (text ++ line) old new

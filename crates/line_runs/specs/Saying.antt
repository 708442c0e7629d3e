-- What the parts of a call say of the text that they write.
use Rattle.std.specs.Prelude.{◌≡◌, ℕ, List}
use Rattle.outside_words.specs.Faults.{Rose}
use Rattle.outside_io.specs.Sink.{State, IsOut}
use Rattle.line_runs.specs.declared.status.Status.{Status}
use Rattle.line_runs.specs.declared.status.Status.TheVariants as statuses

-- a status that comes with a text of its own
abbrev pub IsSaid : Status → Type 0
IsSaid statuses.WriteFault = ⊥
IsSaid statuses.NoMemory = ⊥
IsSaid s = Unit {0}

-- a status that comes with its own fault line, and has no detail
abbrev pub IsPlain : Status → Type 0
IsPlain statuses.WriteFault = ⊥
IsPlain statuses.NoMemory = ⊥
IsPlain (statuses.SealMissing name) = ⊥
IsPlain (statuses.OutOfTurn count) = ⊥
IsPlain (statuses.ClockBack last) = ⊥
IsPlain (statuses.NotaryInconsistent era level index) = ⊥
IsPlain s = Unit {0}

-- some text is out, or none; nothing that was out before is gone
abbrev pub SomeIsOut : State → State → Type 0
SomeIsOut old new = (text : List ℕ) × IsOut text old new

-- a fault of the output is answered only where its count rose
abbrev pub WriteCause : Status → State → State → Type 0
WriteCause s old new = s ≡ statuses.WriteFault → Rose old.faults new.faults

-- What every call of a sink keeps, a run of calls keeps.
use Rattle.std.proofs.Common.{refl, ◌∙◌, arith}
use Rattle.outside_io.specs.Sink.{State, GoesOn}

-- no call
pub goes_on_same : (s : State) → GoesOn s s
goes_on_same s = record { told = refl; faults = omega arith }

-- calls after calls
pub goes_on_then : (old mid new : State) → GoesOn old mid → GoesOn mid new → GoesOn old new
goes_on_then old mid new first next = record { told = next.told ∙ first.told; faults = omega (arith, first.faults, next.faults) }

-- A sink in memory.
use Rattle.std.specs.Prelude.{Some}
use Rattle.outside_words.specs.Listed.{Listed}
use Rattle.outside_io.specs.Sink.{State}
use Rattle.outside_io.specs.declared.memory.MemSink.{MemSink}

abbrev pub state_of : MemSink → State
state_of sink = record { held = Some sink.bytes.items; faults = sink.faults }

-- the writes so far, and which of them are to fail
abbrev pub listed_of : MemSink → Listed
listed_of sink = record { made = sink.writes; failing = sink.failing.items }

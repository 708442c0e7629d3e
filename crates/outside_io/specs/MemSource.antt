-- A source in memory.
use Rattle.std.specs.Prelude.{ℕ, drop, max, Some}
use Rattle.outside_words.specs.Listed.{Listed}
use Rattle.outside_io.specs.Source.{State}
use Rattle.outside_io.specs.declared.mem_source.MemSource.{MemSource}

abbrev pub state_of : MemSource → State
state_of source = record { rest = Some (drop source.passed source.bytes.items); faults = source.faults }

-- the reads so far, and which of them are to fail
abbrev pub listed_of : MemSource → Listed
listed_of source = record { made = source.reads; failing = source.failing.items }

-- the most bytes that a read gives
abbrev pub piece_of : MemSource → ℕ
piece_of source = max source.piece 1

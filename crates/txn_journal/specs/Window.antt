-- A part of a file.
use Rattle.std.specs.Prelude.{ℕ, List, length, take}
use Rattle.txn_journal.specs.declared.window.Window.{Window}

-- the bytes that are seen
abbrev pub seen_by : Window → List ℕ
seen_by w = take w.filled w.buffer.items

-- how many bytes can be
abbrev pub room_of : Window → ℕ
room_of w = length w.buffer.items

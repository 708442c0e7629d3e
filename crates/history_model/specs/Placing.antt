-- Where an item goes in a file of segments.
use Rattle.std.specs.Prelude.{ℕ, ◌+◌, ◌/◌, nat_le, nat_lt, Bool, if◌then◌else◌}
use Rattle.byte_grammar.specs.Gated.{end_behind}
use Rattle.tuple_bytes.specs.Limits.{max_file}
use Rattle.history_model.specs.Segments.{segment_end}

-- the end of the segment of a place
abbrev pub next_start : ℕ → ℕ
next_start end = segment_end (end / 65536)

-- an item of so many bytes goes where the gate behind it stays within the segment, else to the next one
unfoldable pub place_for : ℕ → ℕ → ℕ
place_for end n = if nat_lt (end + 5 + n) (next_start end) then end else next_start end

-- the gate behind it
abbrev pub gate_behind : ℕ → ℕ → ℕ
gate_behind end n = place_for end n + 5 + n

-- there is no room for it: right behind the others, its gate would reach the limit of the file
abbrev pub is_full : ℕ → ℕ → Bool
is_full end n = nat_le max_file (end_behind end n)

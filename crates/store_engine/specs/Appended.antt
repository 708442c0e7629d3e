-- The bytes of a store with one record more, and where a file of such bytes stands.
use Rattle.std.specs.Prelude.{ℕ, ◌+◌, ◌-◌, nat_lt, ◌==◌, Bool, true, false, if◌then◌else◌, List, [], ◌∷◌, length, slice_index, replicate}
use Rattle.disk_words.specs.Disk.{written}
use Rattle.disk_model.specs.Gate.{with_piece}
use Rattle.byte_grammar.specs.Gated.{open_gate}
use Rattle.tuple_bytes.specs.declared.item.Item.{Item}
use Rattle.tuple_bytes.specs.Spelling.{spell_item}
use Rattle.txn_journal.specs.Append.{behind_gate, closed_gate}
use Rattle.history_model.specs.Placing.{next_start}
use Rattle.segment_file.specs.Append.{Standing}

-- a file of these bytes is opened, where the gate behind all items stands at this place
abbrev pub standing : ℕ → List ℕ → Standing
standing end bytes = record { end = end; length = length bytes; gate_is_open = slice_index bytes end == open_gate; is_closed = false }

-- a closed gate at this place, where an open one stands there
abbrev pub shut_at : ℕ → List ℕ → List ℕ
shut_at end bytes = if slice_index bytes end == open_gate then written end (closed_gate ∷ []) bytes else bytes

-- zeros behind the end up to the next start, where the bytes end before that
abbrev pub filled_to : ℕ → ℕ → List ℕ → List ℕ
filled_to next end bytes = if nat_lt (length bytes) next then written (end + 1) (replicate (next - (end + 1)) 0) bytes else bytes

-- The bytes from the end on are replaced by an open gate and a piece, where these stay within the segment; those behind stay.
-- Else those from the next start on are, with no open gate at the end, and zeros up to there.
abbrev pub with_piece_within : Bool → ℕ → ℕ → List ℕ → List ℕ → List ℕ
with_piece_within true end next piece bytes = with_piece end open_gate piece bytes
with_piece_within false end next piece bytes = with_piece next open_gate piece (filled_to next end (shut_at end bytes))

-- the piece is the record of an item, and a closed gate
abbrev pub with_record : ℕ → Item → List ℕ → List ℕ
with_record end item bytes = with_piece_within (nat_lt (end + 5 + length (spell_item item)) (next_start end)) end (next_start end) (behind_gate (spell_item item)) bytes

-- The record at the front of some bytes.
use Rattle.std.specs.Prelude.{◌≡◌, ◌<◌, ◌+◌, ℕ, ◌==◌, ◌&&◌, nat_lt, List, length, take, drop, Option, Some, None, slice_index, if◌then◌else◌}
use Rattle.byte_grammar.specs.Gated.{Shape, FitsRecord, open_gate, named_length, is_framed}

-- the length that stands behind an open gate
abbrev pub gated_length : List ℕ → Option ℕ
gated_length bytes = if nat_lt 4 (length bytes) && (slice_index bytes 0 == open_gate) then Some (named_length bytes) else None

-- the same, where the record stands whole and in its limits
abbrev pub framed_length : Shape → ℕ → List ℕ → Option ℕ
framed_length shape place bytes = if is_framed shape place bytes then Some (named_length bytes) else None

-- the payload of a record of the shape at the front of the bytes, behind which there is a gate
pub record IsAtFront (shape : Shape) (place : ℕ) (bytes payload : List ℕ) : Type 0 where
  pub fits : FitsRecord shape payload
  pub payload_is : payload ≡ take (length payload) (drop 5 bytes)
  pub room : 5 + length payload < length bytes
  pub within : place + 5 + length payload < shape.max_file

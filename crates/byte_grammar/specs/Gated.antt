-- Records behind gates: the body of a file that grows by one record at a time.
use Rattle.std.specs.Prelude.{◌≡◌, ℕ, zero, suc, ◌+◌, ◌<◌, ◌≤◌, ◌==◌, ◌&&◌, nat_le, nat_lt, Bool, IsTrue, List, [], ◌∷◌, ◌++◌, length, take, drop, slice_index, Option, Some, None, if◌then◌else◌}
use Rattle.std.specs.List.{flat_map, AllByRecursion}
use Rattle.std.specs.Int.{w32, to_be_bytes, from_be_bytes}

-- which payloads a gated file takes, the most bytes of a payload, and the place that no gate reaches
pub record Shape : Type 0 where
  pub accepts : List ℕ → Bool
  pub max_payload : ℕ
  pub max_file : ℕ

-- the byte of an open gate; every other byte is a closed one
abbrev pub open_gate : ℕ
open_gate = 0xA7

-- ---- as a function of the bytes

-- the length that the record at the front of the bytes names
abbrev pub named_length : List ℕ → ℕ
named_length bytes = from_be_bytes w32 (take 4 (drop 1 bytes))

-- so many bytes behind the gate and the length
abbrev pub named_payload : List ℕ → List ℕ
named_payload bytes = take (named_length bytes) (drop 5 bytes)

-- the place of the gate behind a record of so many bytes, which begins at this place: a gate, four bytes of length, the payload
abbrev pub end_behind : ℕ → ℕ → ℕ
end_behind place size = place + 5 + size

-- at the front of the bytes, which stand at this place, is an open gate, a length, and so many bytes with a gate behind them
abbrev pub is_framed : Shape → ℕ → List ℕ → Bool
is_framed shape place bytes =
    nat_lt 4 (length bytes) && (slice_index bytes 0 == open_gate) && nat_le (named_length bytes) shape.max_payload
    && nat_lt (5 + named_length bytes) (length bytes) && nat_lt (place + 5 + named_length bytes) shape.max_file

-- the payload of the valid record at the front of the bytes, which stand at this place
unfoldable pub payload_at : Shape → ℕ → List ℕ → Option (List ℕ)
payload_at shape place bytes = if is_framed shape place bytes && shape.accepts (named_payload bytes) then Some (named_payload bytes) else None

abbrev pub with_first : List ℕ → List (List ℕ) × ℕ → List (List ℕ) × ℕ
with_first payload others = (payload ∷ others.0, others.1)

-- the payloads of the records from this place on, after some bytes that are passed over, and the place of the gate behind them
unfoldable pub records : Shape → ℕ → ℕ → List ℕ → List (List ℕ) × ℕ
records shape place passed [] = ([], place)
records shape place (suc passed) (b ∷ bytes) = records shape (suc place) passed bytes
records shape place zero (b ∷ bytes) =
    elim (payload_at shape place (b ∷ bytes)) [
      | Some payload ↦ with_first payload (records shape (suc place) (4 + named_length (b ∷ bytes)) bytes)
      | None ↦ ([], place)
    ]

-- ---- as the longest prefix

-- an open gate, the length, the payload
abbrev pub spell_record : List ℕ → List ℕ
spell_record payload = open_gate ∷ (to_be_bytes w32 (length payload) ++ payload)

abbrev pub spell_records : List (List ℕ) → List ℕ
spell_records payloads = flat_map spell_record payloads

pub record FitsRecord (shape : Shape) (payload : List ℕ) : Type 0 where
  pub accepted : IsTrue (shape.accepts payload)
  pub short : length payload ≤ shape.max_payload

-- the bytes, which stand at this place, begin with records of these payloads, and the next gate is within the bytes and the limit
pub record BeginsWith (shape : Shape) (place : ℕ) (bytes : List ℕ) (payloads : List (List ℕ)) : Type 0 where
  pub rest : List ℕ
  pub parts : bytes ≡ spell_records payloads ++ rest
  pub gate : 0 < length rest
  pub fit : AllByRecursion (FitsRecord shape) payloads
  pub within : place + length (spell_records payloads) < shape.max_file

-- these are the payloads of the longest prefix of valid records, and the place of the gate behind them
pub record IsLongest (shape : Shape) (place : ℕ) (bytes : List ℕ) (found : List (List ℕ) × ℕ) : Type 0 where
  pub prefix : BeginsWith shape place bytes found.0
  pub end : found.1 ≡ place + length (spell_records found.0)
  pub longest : (others : List (List ℕ)) → BeginsWith shape place bytes others → length others ≤ length found.0

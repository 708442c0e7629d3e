-- A file of gated records, as it is read record by record.
use Rattle.std.specs.Prelude.{◌≡◌, ◌<◌, ◌≤◌, ◌==◌, ℕ, ◌+◌, ◌-◌, ◌&&◌, nat_lt, not, Bool, true, false, List, [], length, take, drop, slice_index, Option, Some, None, if◌then◌else◌}
use Rattle.byte_grammar.specs.Gated.{Shape, FitsRecord, open_gate, payload_at, records, with_first}
use Rattle.history_model.specs.Stored.{header_length}

-- the head that stands at the front of the bytes, with a gate behind it
abbrev pub head_of : (List ℕ → Bool) → List ℕ → Option (List ℕ)
head_of is_head bytes = if nat_lt header_length (length bytes) && is_head (take header_length bytes) then Some (take header_length bytes) else None

-- the payloads that are still to be read from a place on, and the place of the gate behind them
abbrev pub left : Shape → ℕ → List ℕ → List (List ℕ) × ℕ
left shape place bytes = records shape place 0 (drop place bytes)

-- the shape, where this is the place that no gate reaches
abbrev pub limited : Shape → ℕ → Shape
limited shape limit = record shape { max_file = limit }

-- where a reader stands
pub record Reading : Type 0 where
  -- of the gate of the next record
  pub place : ℕ
  -- the place that no gate reaches
  pub limit : ℕ
  -- of the record that was read last
  pub payload : List ℕ
  -- what is seen of the file, and the place where that begins
  pub begin : ℕ
  pub seen : List ℕ

-- behind a record with this payload
abbrev pub behind : Reading → List ℕ → Reading
behind r payload = record r { place = r.place + 5 + length payload; payload = payload }

-- what is seen from the place on
abbrev pub ahead : Reading → List ℕ
ahead r = drop (r.place - r.begin) r.seen

-- the gate at the place is seen, and is closed
abbrev pub is_closed_ahead : Reading → Bool
is_closed_ahead r = nat_lt 0 (length (ahead r)) && not (slice_index (ahead r) 0 == open_gate)

-- what is seen stands in the file
pub record IsSeenIn (bytes : List ℕ) (r : Reading) : Type 0 where
  pub within : r.begin ≤ r.place
  pub seen : r.seen ≡ take (length r.seen) (drop r.begin bytes)

-- as much is seen from the place on as there is, or as the longest record and the gate behind it need
pub record IsFilled (shape : Shape) (bytes : List ℕ) (r : Reading) : Type 0 where
  pub begin : r.begin ≡ r.place
  pub room : ℕ
  pub long : shape.max_payload + 6 ≤ room
  pub seen : r.seen ≡ take room (drop r.place bytes)

-- a reader stands at this gate, before anything is read
pub record StandsAt (gate whole : ℕ) (r : Reading) : Type 0 where
  pub place : r.place ≡ gate
  pub limit : r.limit ≡ whole
  pub begin : r.begin ≤ gate
  pub seen : r.seen ≡ []

-- the record at the place, as far as it is seen, was gone over, or there is none
abbrev pub StepsOver : Shape → Reading → Bool → Reading → Type 0
StepsOver shape old true new = (payload_at (limited shape old.limit) old.place (ahead old) ≡ Some new.payload) × (new ≡ behind old new.payload)
StepsOver shape old false new = (payload_at (limited shape old.limit) old.place (ahead old) ≡ None) × (new ≡ old)

-- it stands at the first record of a file, and goes on to this limit
pub record IsAtFirst (whole : ℕ) (r : Reading) : Type 0 where
  pub place : r.place ≡ header_length
  pub limit : r.limit ≡ whole

-- the gate at the place ends the records, and it is seen where there is one
pub record StopsAt (shape : Shape) (bytes : List ℕ) (r : Reading) : Type 0 where
  pub none : left (limited shape r.limit) r.place bytes ≡ ([], r.place)
  pub gate : slice_index (ahead r) 0 ≡ slice_index bytes r.place

-- the next record was read, or there is none
abbrev pub ReadsNext : Shape → List ℕ → Reading → Bool → Reading → Type 0
ReadsNext shape bytes old true new =
    left (limited shape old.limit) old.place bytes ≡ with_first new.payload (left (limited shape old.limit) new.place bytes)
ReadsNext shape bytes old false new = StopsAt shape bytes new

-- the place has gone on behind a record of the shape, below the limit
pub record Advances (shape : Shape) (old new : Reading) : Type 0 where
  pub fits : FitsRecord shape new.payload
  pub place : new.place ≡ old.place + 5 + length new.payload
  pub within : new.place < old.limit

-- the place goes on exactly where a record was read
abbrev pub Moves : Shape → Reading → Bool → Reading → Type 0
Moves shape old true new = Advances shape old new
Moves shape old false new = new.place ≡ old.place

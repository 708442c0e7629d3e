-- What a file of gated records holds, and where a journal stands in it.
use Rattle.std.specs.Prelude.{◌≡◌, ◌⊎◌, ◌==◌, ℕ, Bool, true, false, List, [], ◌∷◌, ◌++◌, length, slice_index, Option, Some, None}
use Rattle.byte_grammar.specs.Gated.{Shape, open_gate, end_behind}
use Rattle.history_model.specs.Stored.{header_length}
use Rattle.txn_journal.specs.Reading.{head_of, left}

-- its head, the payloads behind it, and the place of the gate behind these
pub record Held : Type 0 where
  pub head : List ℕ
  pub payloads : List (List ℕ)
  pub end : ℕ

abbrev pub held_under : Option (List ℕ) → List (List ℕ) × ℕ → Option Held
held_under None found = None
held_under (Some head) found = Some (record { head = head; payloads = found.0; end = found.1 })

-- what stands in these bytes, where they have a head of this kind
abbrev pub held_by : (List ℕ → Bool) → Shape → List ℕ → Option Held
held_by is_head shape bytes = held_under (head_of is_head bytes) (left shape header_length bytes)

-- nothing yet behind a head
abbrev pub new_file : List ℕ → Held
new_file head = record { head = head; payloads = []; end = header_length }

-- one payload more
abbrev pub with_payload : Held → List ℕ → Held
with_payload held payload = record held { payloads = held.payloads ++ payload ∷ []; end = end_behind held.end (length payload) }

-- the bytes hold what they held, or that and one payload more
abbrev pub HoldsOldOrNew : (List ℕ → Bool) → Shape → Held → List ℕ → List ℕ → Type 0
HoldsOldOrNew is_head shape held payload c = (held_by is_head shape c ≡ Some held) ⊎ (held_by is_head shape c ≡ Some (with_payload held payload))

-- where a journal stands
pub record Standing : Type 0 where
  -- the place of the gate behind all payloads
  pub end : ℕ
  -- whether that gate is an open one
  pub gate_is_open : Bool
  -- whether a call has failed
  pub is_closed : Bool

-- a journal that is opened over these bytes, where the gate behind all payloads stands at this place
abbrev pub standing : ℕ → List ℕ → Standing
standing end bytes = record { end = end; gate_is_open = slice_index bytes end == open_gate; is_closed = false }

-- behind one payload more
abbrev pub behind : Standing → List ℕ → Standing
behind at payload = record at { end = end_behind at.end (length payload); gate_is_open = false }

-- until the file is opened anew
abbrev pub closed : Standing → Standing
closed at = record at { is_closed = true }

-- A journal stands in a file of these bytes, which hold this.
pub record StandsIn (is_head : List ℕ → Bool) (shape : Shape) (at : Standing) (held : Held) (bytes : List ℕ) : Type 0 where
  pub holds : held_by is_head shape bytes ≡ Some held
  pub end : held.end ≡ at.end
  pub gate : at.gate_is_open ≡ (slice_index bytes at.end == open_gate)

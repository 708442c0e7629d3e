-- A payload is added behind all others.
use Rattle.std.specs.Prelude.{◌≡◌, ◌⊎◌, ◌≤◌, ℕ, Bool, true, false, List, [], ◌∷◌, ◌++◌, length, take, Result, Ok, Err, IsErrOf, OnOk}
use Rattle.std.specs.Int.{w32, to_be_bytes}
use Rattle.disk_words.specs.declared.DiskFail.TheVariants.{Failed, NoMemory}
use Rattle.disk_words.specs.Disk.{Call, State, Only}
use Rattle.disk_model.specs.Gate.{gated_writes}
use Rattle.disk_model.specs.Moments.{EveryImage, MakesCalls, calls_of}
use Rattle.byte_grammar.specs.Gated.{Shape, open_gate, end_behind}
use Rattle.txn_journal.specs.declared.fail.JournalFail.{JournalFail}
use Rattle.txn_journal.specs.declared.fail.JournalFail.TheVariants as fails
use Rattle.txn_journal.specs.Held.{Standing, behind, closed, Held, with_payload, HoldsOldOrNew, StandsIn}

abbrev pub closed_gate : ℕ
closed_gate = 0

-- what stands behind the gate of a record: its length, its payload, and the next gate, which is closed
abbrev pub behind_gate : List ℕ → List ℕ
behind_gate payload = to_be_bytes w32 (length payload) ++ (payload ++ closed_gate ∷ [])

-- these bytes behind a gate, and then the gate; an open gate at the end is closed first
abbrev pub writes_at : Bool → ℕ → List ℕ → List (ℕ × List ℕ)
writes_at true end bytes = (end, closed_gate ∷ []) ∷ gated_writes end open_gate bytes
writes_at false end bytes = gated_writes end open_gate bytes

-- a record of this payload
abbrev pub addition : Bool → ℕ → List ℕ → List (ℕ × List ℕ)
addition gate_is_open end payload = writes_at gate_is_open end (behind_gate payload)

-- the writes that append a payload, in order
abbrev pub append_writes : Standing → List ℕ → List (ℕ × List ℕ)
append_writes at payload = addition at.gate_is_open at.end payload

-- the calls that do: each write, and a sync behind it
abbrev pub append_calls : Standing → List ℕ → List Call
append_calls at payload = calls_of (append_writes at payload)

-- the next gate would reach the limit, and the journal is not closed
abbrev pub IsRefusedAsFull : ℕ → Standing → List ℕ → Type 0
IsRefusedAsFull whole at payload = (whole ≤ end_behind at.end (length payload)) × (at.is_closed ≡ false)

-- The calls were made in order, and none after one that failed; after a refusal, none at all.
abbrev pub MakesOf : List Call → Result (Unit {0}) JournalFail → State → State → Type 0
MakesOf calls (Ok _) old new = MakesCalls calls (Ok tt) old new
MakesOf calls (Err fails.DiskFault) old new = MakesCalls calls (Err Failed) old new
MakesOf calls (Err fails.NoMemory) old new = MakesCalls calls (Err NoMemory) old new
MakesOf calls (Err fails.AlreadyThere) old new = new.trace ≡ old.trace
MakesOf calls (Err fails.NotAStore) old new = new.trace ≡ old.trace
MakesOf calls (Err fails.StoreFull) old new = new.trace ≡ old.trace
MakesOf calls (Err fails.Closed) old new = new.trace ≡ old.trace

-- where the journal stands after an answer
abbrev pub StandsAfter : List ℕ → Result (Unit {0}) JournalFail → Standing → Standing → Type 0
StandsAfter payload (Ok _) old new = new ≡ behind old payload
StandsAfter payload (Err fails.DiskFault) old new = new ≡ closed old
StandsAfter payload (Err fails.NoMemory) old new = (new ≡ old) ⊎ (new ≡ closed old)
StandsAfter payload (Err fails.StoreFull) old new = new ≡ old
StandsAfter payload (Err fails.Closed) old new = new ≡ old
StandsAfter payload (Err fails.AlreadyThere) old new = ⊥
StandsAfter payload (Err fails.NotAStore) old new = ⊥

-- A file closes only at a fault of its disk, or where a disk that takes memory has none left.
abbrev pub Closes : Bool → Result (Unit {0}) JournalFail → Bool → Bool → Type 0
Closes takes_memory result was_closed is_closed = was_closed ≡ false → is_closed ≡ true → IsErrOf result fails.DiskFault ⊎ (IsErrOf result fails.NoMemory × (takes_memory ≡ true))

-- the bytes before a place are as they were
abbrev pub KeepsFront : ℕ → List ℕ → List ℕ → Type 0
KeepsFront place before after = take place after ≡ take place before

-- what an append does with the bytes of its file
pub record Appends (is_head : List ℕ → Bool) (shape : Shape) (at : Standing) (payload : List ℕ) (result : Result (Unit {0}) JournalFail) (old new : State) (before after : List ℕ) : Type 0 where
  pub added : OnOk result ((held : Held) → StandsIn is_head shape at held before → StandsIn is_head shape (behind at payload) (with_payload held payload) after)
  pub durable : OnOk result (Only after new)
  pub images : (held : Held) → StandsIn is_head shape at held before → Only before old → EveryImage old new (HoldsOldOrNew is_head shape held payload)
  -- whatever was answered
  pub kept : (held : Held) → StandsIn is_head shape at held before → Only before old → HoldsOldOrNew is_head shape held payload after
  pub front : (held : Held) → StandsIn is_head shape at held before → Only before old → KeepsFront at.end before after
  pub trace : MakesOf (append_calls at payload) result old new

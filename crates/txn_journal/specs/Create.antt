-- How a file of gated records begins.
use Rattle.std.specs.Prelude.{◌≡◌, ◌≢◌, ◌⊎◌, ◌+◌, ◌<◌, ◌≤◌, ◌==◌, ◌&&◌, ◌||◌, not, nat_le, ℕ, Bool, true, false, List, [], ◌∷◌, ◌++◌, length, take, drop, slice_index, Some, Result, Ok, Err, OnOk}
use Rattle.disk_words.specs.declared.DiskFail.TheVariants.{Failed, NoMemory}
use Rattle.disk_words.specs.Disk.{State, Only, Unchanged}
use Rattle.disk_model.specs.Moments.{EveryImage, MakesCalls, calls_of}
use Rattle.byte_grammar.specs.Gated.{Shape, open_gate}
use Rattle.txn_journal.specs.declared.fail.JournalFail.{JournalFail}
use Rattle.txn_journal.specs.declared.fail.JournalFail.TheVariants as fails
use Rattle.history_model.specs.Stored.{header_length}
use Rattle.txn_journal.specs.Reading.{left}
use Rattle.txn_journal.specs.Held.{held_by, new_file}
use Rattle.txn_journal.specs.Append.{closed_gate}

-- whether a file may be made on a device: it has at most one byte, or at most 65 of which the first is no open gate
abbrev pub is_free : List ℕ → Bool
is_free bytes = nat_le (length bytes) 1 || (nat_le (length bytes) 65 && not (slice_index bytes 0 == open_gate))

-- a device on which a file may be made
abbrev pub IsFree : List ℕ → Type 0
IsFree bytes = (length bytes ≤ 1) ⊎ ((length bytes ≤ 65) × (slice_index bytes 0 ≢ open_gate))

-- any other
abbrev pub IsTaken : List ℕ → Type 0
IsTaken bytes = (1 < length bytes) × ((65 < length bytes) ⊎ (slice_index bytes 0 ≡ open_gate))

abbrev pub IsFreeOrTaken : Bool → List ℕ → Type 0
IsFreeOrTaken true bytes = IsFree bytes
IsFreeOrTaken false bytes = IsTaken bytes

-- a closed gate, the head behind its gate with a closed gate behind it, and then its gate, each with a sync behind it
abbrev pub creation : List ℕ → List (ℕ × List ℕ)
creation head = (0, closed_gate ∷ []) ∷ (1, drop 1 head ++ closed_gate ∷ []) ∷ (0, open_gate ∷ []) ∷ []

-- A file that is being made ends at most with the gate behind its head, and holds no payload. Its head, where that is gated open, is
-- the new one or stood there.
pub record IsHalfMade (shape : Shape) (head before c : List ℕ) : Type 0 where
  pub short : length c ≤ header_length + 1
  pub empty : left shape header_length c ≡ ([], header_length)
  pub head_is : slice_index c 0 ≡ open_gate → header_length < length c → (take header_length c ≡ head) ⊎ (drop 1 (take header_length c) ≡ drop 1 (take header_length before))
  pub from_empty : before ≡ [] → IsFree c ⊎ ((take header_length c ≡ head) × (header_length < length c))

-- the answers that making a file may give
abbrev pub IsOfCreation : Result (Unit {0}) JournalFail → Type 0
IsOfCreation (Ok _) = Unit {0}
IsOfCreation (Err fails.AlreadyThere) = Unit {0}
IsOfCreation (Err fails.DiskFault) = Unit {0}
IsOfCreation (Err fails.NoMemory) = Unit {0}
IsOfCreation (Err fails.NotAStore) = ⊥
IsOfCreation (Err fails.StoreFull) = ⊥
IsOfCreation (Err fails.Closed) = ⊥

-- Refused are exactly the devices that are taken, but for a fault and want of memory.
abbrev pub Refuses : List ℕ → Result (Unit {0}) JournalFail → Type 0
Refuses bytes (Ok _) = IsFree bytes
Refuses bytes (Err fails.AlreadyThere) = IsTaken bytes
Refuses bytes (Err fails.DiskFault) = Unit {0}
Refuses bytes (Err fails.NoMemory) = Unit {0}
Refuses bytes (Err fails.NotAStore) = ⊥
Refuses bytes (Err fails.StoreFull) = ⊥
Refuses bytes (Err fails.Closed) = ⊥

-- The calls were made in order, and none after one that failed, or none where reading failed before.
abbrev pub MakesAfterReading : List (ℕ × List ℕ) → Result (Unit {0}) JournalFail → State → State → Type 0
MakesAfterReading writes (Ok _) old new = MakesCalls (calls_of writes) (Ok tt) old new
MakesAfterReading writes (Err fails.DiskFault) old new = (new.trace ≡ old.trace) ⊎ MakesCalls (calls_of writes) (Err Failed) old new
MakesAfterReading writes (Err fails.NoMemory) old new = MakesCalls (calls_of writes) (Err NoMemory) old new
MakesAfterReading writes (Err fails.AlreadyThere) old new = new.trace ≡ old.trace
MakesAfterReading writes (Err fails.NotAStore) old new = ⊥
MakesAfterReading writes (Err fails.StoreFull) old new = ⊥
MakesAfterReading writes (Err fails.Closed) old new = ⊥

-- what making a file does with the bytes of a device
pub record Creates (is_head : List ℕ → Bool) (shape : Shape) (head : List ℕ) (result : Result (Unit {0}) JournalFail) (old new : State) (before after : List ℕ) : Type 0 where
  pub refused : Refuses before result
  pub kept : IsTaken before → Unchanged old new
  pub made : OnOk result (after ≡ head ++ closed_gate ∷ [])
  pub holds : OnOk result (held_by is_head shape after ≡ Some (new_file head))
  pub durable : OnOk result (Only after new)
  pub images : IsFree before → Only before old → EveryImage old new (IsHalfMade shape head before)
  pub trace : MakesAfterReading (creation head) result old new

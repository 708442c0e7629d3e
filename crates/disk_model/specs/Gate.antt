-- A piece behind a gate: a byte that says whether what stands behind it counts.
use Rattle.std.specs.Prelude.{◌≡◌, ◌≢◌, ◌⊎◌, ◌+◌, ◌<◌, ℕ, List, [], ◌∷◌, ◌++◌, length, take, drop, slice_index, Result, OnOk}
use Rattle.disk_words.specs.declared.DiskFail.{DiskFail}
use Rattle.disk_words.specs.Disk.{State, Only}
use Rattle.disk_model.specs.Moments.{EveryImage}

-- the piece behind the gate, and then the gate, for a sync behind each
abbrev pub gated_writes : ℕ → ℕ → List ℕ → List (ℕ × List ℕ)
gated_writes gate open_byte piece = (gate + 1, piece) ∷ (gate, open_byte ∷ []) ∷ []

-- there is a gate at this place, and its byte is not the open one
pub record IsClosed (gate open_byte : ℕ) (bytes : List ℕ) : Type 0 where
  pub within : gate < length bytes
  pub closed : slice_index bytes gate ≢ open_byte

-- the bytes up to an open gate, the piece, and what stood behind it
abbrev pub with_piece : ℕ → ℕ → List ℕ → List ℕ → List ℕ
with_piece gate open_byte piece bytes = take gate bytes ++ (open_byte ∷ piece) ++ drop (gate + 1 + length piece) bytes

-- the gate is closed and all before it is as it was
pub record IsOld (gate open_byte : ℕ) (before c : List ℕ) : Type 0 where
  pub closed : IsClosed gate open_byte c
  pub front : take gate c ≡ take gate before

-- the old content, or the new one
abbrev pub IsOldOrNew : ℕ → ℕ → List ℕ → List ℕ → List ℕ → Type 0
IsOldOrNew gate open_byte piece before c = IsOld gate open_byte before c ⊎ (c ≡ with_piece gate open_byte piece before)

-- From a closed gate on a settled disk on, every image has the old content or the new one.
pub record ShowsAllOrNothing (gate open_byte : ℕ) (piece : List ℕ) (result : Result (Unit {0}) DiskFail) (old new : State) (before after : List ℕ) : Type 0 where
  pub shown : OnOk result (IsClosed gate open_byte before → after ≡ with_piece gate open_byte piece before)
  pub images : IsClosed gate open_byte before → Only before old → EveryImage old new (IsOldOrNew gate open_byte piece before)

-- Bytes read from the front on.
use Rattle.std.specs.Prelude.{◌≡◌, ◌-◌, ℕ, List, ◌++◌, min, length, take, drop}

-- as many of the bytes that come next as there is room for are read behind those that were
pub record AddsPiece (room : ℕ) (bytes old new : List ℕ) (n : ℕ) : Type 0 where
  pub as_many : n ≡ min room (length bytes - length old)
  pub piece : new ≡ old ++ take n (drop (length old) bytes)

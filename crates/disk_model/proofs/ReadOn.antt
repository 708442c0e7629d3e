-- A disk is read from the front on.
use Rattle.std.proofs.Common.{◌≡◌, ℕ, List, length, take, IfSome}
use Rattle.disk_words.specs.Disk.{State, Unchanged, GoesOn}

-- the front is read, of bytes whose length was told
pub record HasRead (told : ℕ) (all : List ℕ) (old new : State) : Type 0 where
  pub front : IfSome old.reads (λ bytes. (told ≡ length bytes) × (all ≡ take (length all) bytes))
  pub same : Unchanged old new
  pub frame : GoesOn old new
  pub counted : new.faults ≡ old.faults

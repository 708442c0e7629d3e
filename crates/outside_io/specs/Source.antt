-- A source as its callers see it: the bytes that are left, and how often it has failed.
use Rattle.std.specs.Prelude.{◌≡◌, ◌<◌, ◌≤◌, ℕ, List, length, take, drop, Option, None}
use Rattle.outside_words.specs.Told.{WhereTold, TellsAlike}

pub record State : Type 0 where
  -- the bytes that are left, where they are told
  pub rest : Option (List ℕ)
  -- how often it has failed
  pub faults : ℕ

-- the first n of the bytes that were left are moved into the front of the buffer, at least one where one was left and there is room
pub record Moves (into : List ℕ) (n : ℕ) (before after : List ℕ) : Type 0 where
  pub there : n ≤ length before
  pub some : 0 < length into → 0 < length before → 0 < n
  pub front : take n into ≡ take n before
  pub left : after ≡ drop n before

-- n bytes of the buffer are read
pub record Reads (into : List ℕ) (old new : State) (n : ℕ) : Type 0 where
  pub fits : n ≤ length into
  pub moves : WhereTold old.rest new.rest (Moves into n)

-- nothing was read
abbrev pub Unchanged : State → State → Type 0
Unchanged old new = new.rest ≡ old.rest

-- What every call and every run of calls keeps.
pub record GoesOn (old new : State) : Type 0 where
  pub told : TellsAlike old.rest new.rest
  pub faults : old.faults ≤ new.faults

-- a source that tells nothing of itself but its faults
abbrev pub untold_state : ℕ → State
untold_state faults = record { rest = None; faults = faults }

-- A sink as its callers see it: the bytes that it holds, and how often it has failed.
use Rattle.std.specs.Prelude.{◌≡◌, ◌<◌, ◌≤◌, ℕ, List, ◌++◌, length, take, Option, Some, None}
use Rattle.outside_words.specs.Told.{TellsAlike}

pub record State : Type 0 where
  -- the bytes that it holds, where they are told
  pub held : Option (List ℕ)
  -- how often it has failed
  pub faults : ℕ

-- what is held, where it is told, with these bytes behind it
abbrev pub appended : Option (List ℕ) → List ℕ → Option (List ℕ)
appended None bytes = None
appended (Some held) bytes = Some (held ++ bytes)

-- the bytes are out
abbrev pub IsOut : List ℕ → State → State → Type 0
IsOut bytes old new = new.held ≡ appended old.held bytes

-- a front of the bytes is out
pub record FrontIsOut (bytes : List ℕ) (old new : State) : Type 0 where
  pub len : ℕ
  pub out : IsOut (take len bytes) old new

-- a front of the bytes is out, and at least all of those before
pub record IsOutBut (before bytes : List ℕ) (old new : State) : Type 0 where
  pub len : ℕ
  pub least : length before ≤ len
  pub out : IsOut (take len bytes) old new

-- the first n bytes of the piece are out, at least one where it has any
pub record Writes (piece : List ℕ) (old new : State) (n : ℕ) : Type 0 where
  pub fits : n ≤ length piece
  pub some : 0 < length piece → 0 < n
  pub out : IsOut (take n piece) old new

-- nothing went out
abbrev pub Unchanged : State → State → Type 0
Unchanged old new = new.held ≡ old.held

-- What every call and every run of calls keeps.
pub record GoesOn (old new : State) : Type 0 where
  pub told : TellsAlike old.held new.held
  pub faults : old.faults ≤ new.faults

-- a sink that tells nothing of itself but its faults
abbrev pub untold_state : ℕ → State
untold_state faults = record { held = None; faults = faults }

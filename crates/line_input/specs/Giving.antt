-- What a reader has given out of a whole input.
use Rattle.std.specs.Prelude.{◌≡◌, ◌<◌, ◌+◌, ◌⊎◌, ℕ, true, List, [], ◌++◌, length}
use Rattle.std.specs.List.{All}
use Rattle.line_input.specs.Limits.{input_limit}
use Rattle.line_input.specs.Lines.{IsFeedless, lines_of, joined}
use Rattle.line_input.specs.Reader.{Reading}

-- these lines were given out, each ended by its feed, and the others are to come
pub record IsFront (bytes : List ℕ) (lines : List (List ℕ)) (r : Reading) (rest : List ℕ) : Type 0 where
  pub feedless : All IsFeedless lines
  pub split : bytes ≡ joined lines (r.pending ++ rest)

-- all lines were given out, up to the end of input
pub record IsAll (bytes : List ℕ) (lines : List (List ℕ)) (r : Reading) (rest : List ℕ) : Type 0 where
  pub all : lines ≡ lines_of bytes
  pub none : r.pending ++ rest ≡ []
  pub below : r.taken < input_limit
  pub ended : r.is_ended ≡ true

-- a reader that took nothing before has given out these lines of an input
pub record HasGiven (bytes : List ℕ) (lines : List (List ℕ)) (r : Reading) (rest : List ℕ) : Type 0 where
  pub counted : r.taken + length rest ≡ length bytes
  pub given : IsFront bytes lines r rest ⊎ IsAll bytes lines r rest
  -- where the end was seen, none is to come
  pub ends : r.is_ended ≡ true → r.pending ++ rest ≡ []

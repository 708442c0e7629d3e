-- What is left of a piece of input.
use Rattle.std.specs.Prelude.{◌≡◌, ◌≤◌, ℕ, List, [], ◌++◌, length, slice_range}
use Rattle.outside_words.specs.Told.{WhereTold}
use Rattle.outside_io.specs.Source.{State}
use Rattle.line_input.specs.declared.piece.Piece.{Piece}

-- the bytes of the piece that were not looked at
abbrev pub rest_of : Piece → List ℕ
rest_of piece = slice_range piece.bytes.items piece.from piece.end

-- the bytes were the first that the source had left: at least one where one was left
pub record IsMoved (bytes before after : List ℕ) : Type 0 where
  pub whole : before ≡ bytes ++ after
  pub some : bytes ≡ [] → before ≡ []

-- the piece is the next bytes of the source, n of them: at least one where one was left
pub record IsNext (most : ℕ) (piece : Piece) (from to : State) (n : ℕ) : Type 0 where
  pub count : length (rest_of piece) ≡ n
  pub fits : n ≤ most
  pub moved : WhereTold from.rest to.rest (IsMoved (rest_of piece))

-- A line that is gathered from pieces.
use Rattle.std.specs.Prelude.{◌≡◌, ◌<◌, ◌+◌, ◌↔◌, length, IsTrue, Bool, true, false, not, List, [], ◌∷◌, ◌++◌, ℕ, Result, Ok, Err, if◌then◌else◌}
use Rattle.outside_words.specs.Told.{WhereTold}
use Rattle.outside_io.specs.Source.{State, Unchanged}
use Rattle.line_input.specs.Limits.{input_limit, piece_limit}
use Rattle.line_input.specs.Lines.{feed, IsFeedless}
use Rattle.line_input.specs.declared.fail.InputFail.{InputFail}
use Rattle.line_input.specs.declared.fail.InputFail.TheVariants.{NoMemory}
use Rattle.line_input.specs.Piece.{rest_of, IsMoved}
use Rattle.line_input.specs.Reader.{Reading, Tells, Takes, IsAtOnce, GivesMore, SeesEnd}
use Rattle.line_input.specs.declared.gathering.Gathering.{Gathering}

-- what callers see of it, where the line is given out and where it isn't
abbrev pub reading_of : Bool → Gathering → Reading
reading_of is_given g = record {
  line = if is_given then g.line.items else [];
  pending = (if is_given then [] else g.line.items) ++ rest_of g.piece;
  taken = g.taken;
  is_ended = g.is_ended;
}

-- whether a line is given out
abbrev pub is_found : Result Bool InputFail → Bool
is_found (Ok found) = found
is_found (Err fail) = false

-- what a call does with it
pub record Moves (result : Result Bool InputFail) (old new : Gathering) (from to : State) : Type 0 where
  pub told : Tells result (reading_of false old) (reading_of (is_found result) new) from to
  pub taken : Takes (reading_of false old) (reading_of (is_found result) new) from to
  pub at_once : IsAtOnce result (reading_of false old) (reading_of (is_found result) new)
  pub more : GivesMore result (reading_of false old) (reading_of (is_found result) new)
  pub sees : SeesEnd result (reading_of false old) (reading_of (is_found result) new)

-- no line ends in what was taken and not given out
abbrev pub HasNoEnd : Gathering → Type 0
HasNoEnd g = IsFeedless (reading_of false g).pending

-- all the bytes that were taken and not given out
abbrev pub held_by : Gathering → List ℕ
held_by g = g.line.items ++ rest_of g.piece

-- the line is what comes before the first feed, which is gone over
pub record GathersLine (old new : Gathering) : Type 0 where
  pub held : held_by old ≡ new.line.items ++ feed ∷ rest_of new.piece
  pub less : length (rest_of new.piece) < piece_limit

-- the line is gathered, or there is no feed, and it is all
abbrev pub Gathers : Gathering → Gathering → Bool → Type 0
Gathers old new true = GathersLine old new
Gathers old new false = (held_by old ≡ new.line.items) × (rest_of new.piece ≡ [])

-- no memory was left, and nothing was moved
pub record IsUntouched (old new : Gathering) (fail : InputFail) : Type 0 where
  pub no_memory : fail ≡ NoMemory
  pub held : held_by new ≡ held_by old

-- the next piece was taken, or the source has none
pub record TakesPiece (old new : Gathering) (from to : State) (is_next : Bool) : Type 0 where
  pub taken : new.taken ≡ old.taken + length (rest_of new.piece)
  pub some : IsTrue is_next ↔ (old.taken < new.taken)
  pub below : old.taken < input_limit
  pub moved : WhereTold from.rest to.rest (IsMoved (rest_of new.piece))
  pub ended : new.is_ended ≡ not is_next

-- nothing was taken
pub record TakesNothing (old new : Gathering) (from to : State) : Type 0 where
  pub taken : new.taken ≡ old.taken
  pub rest : rest_of new.piece ≡ []
  pub same : Unchanged from to
  pub still : new.is_ended ≡ old.is_ended

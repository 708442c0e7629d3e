-- A reader of lines as its callers see it.
use Rattle.std.specs.Prelude.{◌≡◌, ◌<◌, ◌≤◌, ◌+◌, ◌⊎◌, ℕ, Bool, true, false, List, [], ◌∷◌, ◌++◌, length, IsTrue, Result, Ok, Err, OnOk}
use Rattle.outside_words.specs.Told.{WhereTold}
use Rattle.outside_io.specs.Source.{State}
use Rattle.line_input.specs.Limits.{input_limit, piece_limit}
use Rattle.line_input.specs.Lines.{feed, has_feed, IsFeedless, lines_of}
use Rattle.line_input.specs.declared.fail.InputFail.{InputFail}

pub record Reading : Type 0 where
  -- the line that was given out last; nothing before the first, at the end and after a refusal
  pub line : List ℕ
  -- the bytes that were taken and not given out
  pub pending : List ℕ
  -- how many bytes were taken in all
  pub taken : ℕ
  -- whether the end of the input was seen
  pub is_ended : Bool

-- all the bytes that were unread are one line, which no feed ends
pub record IsLastLine (new : Reading) (before after : List ℕ) : Type 0 where
  pub whole : before ≡ new.line
  pub some : 0 < length new.line
  pub end : after ≡ []
  pub below : new.taken < input_limit
  pub ended : new.is_ended ≡ true

-- the first of the lines that were unread is given out
pub record Gives (new : Reading) (before after : List ℕ) : Type 0 where
  pub lines : lines_of before ≡ new.line ∷ lines_of after
  pub ends : (before ≡ new.line ++ feed ∷ after) ⊎ IsLastLine new before after
  pub last : new.is_ended ≡ true → after ≡ []

-- nothing was unread, unless the end was seen before, and as much is unread as before
pub record IsAtEnd (old : Reading) (before after : List ℕ) : Type 0 where
  pub none : old.is_ended ≡ false → before ≡ []
  pub same : after ≡ before

-- what an answer says of the bytes that were unread and those that still are
abbrev pub Answers : Result Bool InputFail → Reading → Reading → List ℕ → List ℕ → Type 0
Answers (Ok true) old new before after = Gives new before after
Answers (Ok false) old new before after = IsAtEnd old before after
Answers (Err fail) old new before after = after ≡ before

-- The same where the source tells what it has left: unread are the bytes that were taken and not given out, and behind them those.
abbrev pub Tells : Result Bool InputFail → Reading → Reading → State → State → Type 0
Tells result old new from to = WhereTold from.rest to.rest (λ before after. Answers result old new (old.pending ++ before) (new.pending ++ after))

-- as many bytes more were taken as the source has lost, and never too many
pub record Takes (old new : Reading) (from to : State) : Type 0 where
  pub within : new.taken ≤ input_limit
  pub rises : old.taken ≤ new.taken
  pub as_lost : WhereTold from.rest to.rest (λ before after. new.taken + length after ≡ old.taken + length before)

-- all that may be taken was taken, and no line ends in what wasn't given out
pub record IsAtLimit (new : Reading) : Type 0 where
  pub full : new.taken ≡ input_limit
  pub feedless : IsFeedless new.pending

-- A line is given out as soon as its end was taken: then no more is taken, and with it came less than a piece.
pub record IsAtOnce (result : Result Bool InputFail) (old new : Reading) : Type 0 where
  pub none_taken : IsTrue (has_feed old.pending) → new.taken ≡ old.taken
  pub little_more : OnOk result (length new.pending < piece_limit)

-- With a line more bytes were given out: those that were taken and are not pending. Its feed is one, or it isn't empty.
abbrev pub GivesMore : Result Bool InputFail → Reading → Reading → Type 0
GivesMore (Ok true) old new = old.taken + length new.pending < new.taken + length old.pending
GivesMore (Ok false) old new = Unit {0}
GivesMore (Err fail) old new = Unit {0}

-- The end, once it was seen, stays seen: no line comes behind it, and no failure.
abbrev pub SeesEnd : Result Bool InputFail → Reading → Reading → Type 0
SeesEnd (Ok true) old new = old.is_ended ≡ false
SeesEnd (Ok false) old new = new.is_ended ≡ true
SeesEnd (Err fail) old new = (old.is_ended ≡ false) × (new.is_ended ≡ false)

-- nothing is pending, and less was taken than may be
pub record IsPast (r : Reading) : Type 0 where
  pub none : r.pending ≡ []
  pub below : r.taken < input_limit

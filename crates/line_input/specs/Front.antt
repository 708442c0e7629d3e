-- Which lines of an input were read, by the bytes that it had and those that are left.
use Rattle.std.specs.Prelude.{◌≡◌, ◌⊎◌, ◌<◌, ◌≤◌, ◌+◌, ◌-◌, ℕ, List, [], length, take, drop}
use Rattle.line_input.specs.Limits.{input_limit, piece_limit}
use Rattle.line_input.specs.Lines.{lines_of, complete_lines, joined}

-- the bytes that were taken
abbrev pub taken_of : List ℕ → List ℕ → List ℕ
taken_of input left = take (length input - length left) input

-- the lines are the first of the input
abbrev pub AreFirst : List (List ℕ) → List ℕ → Type 0
AreFirst lines input = lines ≡ take (length lines) (lines_of input)

-- all lines of an input that was read to its end, and that is shorter than may be taken
abbrev pub AreAll : List (List ℕ) → List ℕ → List ℕ → Type 0
AreAll lines input left = (lines ≡ lines_of input) × (left ≡ []) × (length input < input_limit)

-- the lines whose end was read
abbrev pub AreComplete : List (List ℕ) → List ℕ → List ℕ → Type 0
AreComplete lines input left = lines ≡ complete_lines (taken_of input left)

-- these, where as much was taken as may be
abbrev pub AreWithinLimit : List (List ℕ) → List ℕ → List ℕ → Type 0
AreWithinLimit lines input left = AreComplete lines input left × (length input ≡ length left + input_limit)

-- less than a piece was taken beyond these lines, or no line more whose end was taken
abbrev pub TakesLittle : List (List ℕ) → List ℕ → List ℕ → Type 0
TakesLittle lines input left = AreComplete lines input left ⊎ (length (taken_of input left) < length (joined lines []) + piece_limit)

-- no more was taken than may be, from the front on
pub record TakesFront (input left : List ℕ) : Type 0 where
  pub within : length input ≤ length left + input_limit
  pub front : left ≡ drop (length input - length left) input

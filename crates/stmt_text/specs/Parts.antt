-- What stands in the tokens of a line, one part after the other.
use Rattle.std.specs.Prelude.{ℕ, if◌then◌else◌, List, [], ◌∷◌, Option, Some, None, option_map, codes}
use Rattle.std.specs.Str.{bytes_eq}
use Rattle.tuple_bytes.specs.declared.value.Value.{Value}
use Rattle.byte_grammar.specs.Reading.{◌>>=◌}
use Rattle.tuple_bytes.specs.Limits.{max_moment}
use Rattle.tuple_bytes.specs.Word.{is_word}
use Rattle.stmt_text.specs.declared.number.Numbers.{Numbers}
use Rattle.stmt_text.specs.declared.number.Numbers.TheVariants as modes
use Rattle.stmt_text.specs.Tokens.{Token}
use Rattle.stmt_text.specs.Numbers.{number, kept, max_era}
use Rattle.stmt_text.specs.Values.{value, nearest_value, value_in_range}

-- ---- what one token says

-- a value, whose number is to be in its range
abbrev pub kept_value : Numbers → Value → Option Value
kept_value modes.AnyWidth v = Some (nearest_value v)
kept_value modes.InRange v = if value_in_range v then Some v else None

-- the number of a moment
unfoldable pub moment : Numbers → Token → Option ℕ
moment numbers token = number token >>= kept numbers 0 max_moment

-- how many granules an analysis may name
unfoldable pub kappa : Numbers → Token → Option ℕ
kappa numbers token = number token >>= kept numbers 1 1024

-- the number of an era
unfoldable pub era : Numbers → Token → Option ℕ
era numbers token = number token >>= kept numbers 0 max_era

-- a value
unfoldable pub value_in : Numbers → Token → Option Value
value_in numbers token = value token >>= kept_value numbers

-- the name of a table or a column
unfoldable pub name : Token → Option (List ℕ)
name token = if is_word token then Some token else None

-- ---- one after the other

-- what the first token says, and the tokens after it
unfoldable pub front : {A : Type 0} → (Token → Option A) → List Token → Option (A × List Token)
front read [] = None
front read (token ∷ tokens) = do
  a ← read token
  Some (a, tokens)

-- no token is left
abbrev pub ended : List Token → Option (Unit {0})
ended [] = Some tt
ended (token ∷ tokens) = None

-- what the only token says
unfoldable pub only : {A : Type 0} → (Token → Option A) → List Token → Option A
only read tokens = do
  a ← front read tokens
  none ← ended a.1
  Some a.0

-- what each token says
unfoldable pub each : {A : Type 0} → (Token → Option A) → List Token → Option (List A)
each read [] = Some []
each read (token ∷ tokens) = do
  a ← read token
  others ← each read tokens
  Some (a ∷ others)

-- this word, and then what stands behind it
unfoldable pub after_word : {A : Type 0} → List ℕ → (List Token → Option A) → List Token → Option A
after_word text read [] = None
after_word text read (token ∷ tokens) = if bytes_eq token text then read tokens else None

-- what stands behind this word
unfoldable pub behind_word : List ℕ → List Token → Option (List Token)
behind_word text [] = None
behind_word text (token ∷ tokens) = if bytes_eq token text then Some tokens else None

-- two names, and the tokens after them
unfoldable pub two_names : List Token → Option ((List ℕ × List ℕ) × List Token)
two_names tokens = do
  one ← front name tokens
  two ← front name one.1
  Some ((one.0, two.0), two.1)

-- nothing, or `as of` and a moment
unfoldable pub as_of : Numbers → List Token → Option (Option ℕ)
as_of numbers [] = Some None
as_of numbers (token ∷ tokens) =
    option_map Some (after_word (codes "as") (after_word (codes "of") (only (moment numbers))) (token ∷ tokens))

-- nothing, or `era` and its number
unfoldable pub of_era : Numbers → List Token → Option (Option ℕ)
of_era numbers [] = Some None
of_era numbers (token ∷ tokens) = option_map Some (after_word (codes "era") (only (era numbers)) (token ∷ tokens))

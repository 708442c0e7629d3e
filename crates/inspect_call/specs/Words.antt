-- The words of the call: `inspect`, `inspect ID` or `inspect --explain NAME`.
use Rattle.std.specs.Prelude.{ℕ, if◌then◌else◌, List, [], ◌∷◌, codes, Option, Some, None, option_map}
use Rattle.std.specs.Str.{bytes_eq}
use Rattle.stmt_text.specs.Numbers.{plain_number as number_of, max_u64}
use Rattle.file_findings.specs.Kinds.{named}
use Rattle.inspect_call.specs.declared.words.Asked.{Asked}
use Rattle.inspect_call.specs.declared.words.Asked.TheVariants as asks

abbrev pub look_of : ℕ → Asked
look_of id = asks.Look (Some id)

-- the words after the first one
abbrev pub rest_of : List (List ℕ) → Option Asked
rest_of [] = Some (asks.Look None)
rest_of (id ∷ []) = option_map look_of (number_of 0 max_u64 id)
rest_of (word ∷ name ∷ []) = if bytes_eq word (codes "--explain") then option_map asks.Explain (named name) else None
rest_of (word ∷ name ∷ more ∷ others) = None

-- what is asked, if the words ask for a look
abbrev pub asked_of : List (List ℕ) → Option Asked
asked_of [] = None
asked_of (word ∷ words) = if bytes_eq word (codes "inspect") then rest_of words else None

-- What the code finds on its way through a line, and what it answers.
use Rattle.std.specs.Prelude.{◌≡◌, ◌↔◌, ℕ, suc, Bool, true, ◌==◌, not, nat_le, min, if◌then◌else◌, List, [], ◌∷◌, Option, Some, None, Result, Ok, Err, ℤ}
use Rattle.tuple_bytes.specs.declared.value.Value.{Value}
use Rattle.stmt_text.specs.declared.error.ParseFail.{ParseFail}
use Rattle.stmt_text.specs.declared.error.ParseFail.TheVariants as fails
use Rattle.stmt_text.specs.declared.error.ReadFail.{ReadFail}
use Rattle.stmt_text.specs.declared.error.ReadFail.TheVariants as unread
use Rattle.stmt_text.specs.declared.line.Line.{Line}
use Rattle.stmt_text.specs.Tokens.{separates, inside_after}
use Rattle.stmt_text.specs.Numbers.{nearest_int, int_in_range}
use Rattle.stmt_text.specs.Values.{nearest_value, value_in_range}

-- ---- tokens

abbrev pub first : {A : Type 0} → List A → Option (A × List A)
first [] = None
first (x ∷ xs) = Some (x, xs)

-- how many bytes stand before the first space outside quotes
unfoldable pub token_end : Bool → List ℕ → ℕ
token_end inside [] = 0
token_end inside (b ∷ bytes) = if separates inside b then 0 else suc (token_end (inside_after inside b) bytes)

-- no space stands at the front
abbrev pub begins_filled : List ℕ → Bool
begins_filled [] = true
begins_filled (b ∷ bytes) = not (b == 32)

-- ---- ranges

-- the number or the limit, whichever is less, and whether that is the number
abbrev pub clamped : ℕ → ℕ → ℕ × Bool
clamped limit n = (min n limit, nat_le n limit)

abbrev pub clamped_int : ℤ → ℤ × Bool
clamped_int z = (nearest_int z, int_in_range z)

abbrev pub clamped_value : Value → Value × Bool
clamped_value v = (nearest_value v, value_in_range v)

-- ---- answers

-- what was read, seen by view, is what reading gives, unless memory ran out
abbrev pub Read : {X Y : Type 0} → (X → Y) → Result X ReadFail → Option Y → Type 0
Read view (Ok x) read = read ≡ Some (view x)
Read view (Err unread.Missing) read = read ≡ None
Read view (Err unread.NoMemory) read = Unit {0}

-- this answer, unless memory ran out
abbrev pub IsAnswer : Result Line ParseFail → Result Line ParseFail → Type 0
IsAnswer (Ok l) expected = expected ≡ Ok l
IsAnswer (Err fails.Syntax) expected = expected ≡ Err fails.Syntax
IsAnswer (Err fails.NumberTooWide) expected = expected ≡ Err fails.NumberTooWide
IsAnswer (Err fails.NoMemory) expected = Unit {0}

-- this refusal comes exactly where its cause is there, unless memory ran out
abbrev pub ComesExactly : Result Line ParseFail → ParseFail → Type 0 → Type 0
ComesExactly (Err fails.NoMemory) fail cause = Unit {0}
ComesExactly result fail cause = (result ≡ Err fail) ↔ cause

-- The lines of a script are read as the statements that they were written from.
use Rattle.std.proofs.Common.{◌≡◌, ℕ, zero, suc, ◌<◌, ◌≤◌, ◌^◌, Bool, true, false, List, [], ◌∷◌, ◌++◌, map, length, codes, Option, Some, None, Ok, Err, if◌then◌else◌, refl, sym, ap, ap₂, ◌∙◌, arith, append_assoc, append-nil, length-append, lit≤, lit<}
use Rattle.std.specs.Prelude.{nat_le, option_map}
use Rattle.std.specs.Fmt.{decimal}
use Rattle.std.specs.List.{flat_map, list_all, AllByRecursion}
use Rattle.std.proofs.lemmas.Bool.{le-leb, ne_eqb, true≢false}
use Rattle.std.proofs.lemmas.Fmt.{decimal_nonempty, length-decimal-le}
use Rattle.stmt_text.specs.declared.line.Line.TheVariants as lines
use Rattle.stmt_text.specs.declared.number.Numbers.{Numbers}
use Rattle.stmt_text.specs.declared.stmt.Stmt.{Stmt}
use Rattle.stmt_text.specs.declared.stmt.Stmt.TheVariants as stmts
use Rattle.stmt_text.specs.declared.word.Keyword.TheVariants as words
use Rattle.stmt_text.specs.Numbers.{is_digit, any_width, in_range, kept}
use Rattle.tuple_bytes.specs.Limits.{max_moment}
use Rattle.stmt_text.specs.Parts.{moment, only, front}
use Rattle.stmt_text.specs.Statements.{stmt_by}
use Rattle.stmt_text.specs.Words.{keyword, table_keyword, other_keyword, drill_keyword}
use Rattle.stmt_text.specs.declared.error.ParseFail.TheVariants as fails
use Rattle.stmt_text.specs.Tokens.{Token}
use Rattle.stmt_text.specs.Grammar.{joined}
use Rattle.stmt_text.specs.Lines.{answer, answer_by, line_by, content_line, is_blank, max_line, said, plain, plain_by, session}
use Rattle.stmt_text.specs.Printing.{line_text, stmt_text}
use Rattle.stmt_text.specs.Fits.{FitsLine}
use Rattle.workload_make.proofs.Short.{change_short}
use Rattle.stmt_text.proofs.Choices.{both}
use Rattle.stmt_text.proofs.LineBack.{line_back}
use Rattle.stmt_text.proofs.Numerals.{number_again, digits_all, filled}
use Rattle.stmt_text.proofs.PrintedTokens.{AllPrinted, printed, decimal_simple, word_printed, tokens_back, joined_on, no_return}
use Rattle.stmt_text.proofs.WordReads.{word_not_blank}
use Rattle.line_input.specs.Lines.{feed, IsFeedless, lines_of}
use Rattle.line_input.proofs.Lines.{feedless_append, lines_first, lines_none}
use Rattle.workload_make.specs.declared.change.Change.{Change}
use Rattle.workload_make.specs.declared.change.Change.TheVariants.{Insert, Update, Delete}
use Rattle.workload_make.specs.Script.{Progress, before_steps, create_made, key, amount, change_at, change_stmt, next_moment, after_step, steps, script, script_stmts, ended_line}
use Rattle.workload_laws.specs.Read.{plain_line, read_back, ScriptsAreRead}

-- ---- one moment

now_tokens : (m : ℕ) → m < 2 ^ 64 → AllPrinted (codes "now" ∷ decimal m ∷ [])
now_tokens m fits = (word_printed words.Now, (printed (decimal m) (filled (decimal m) (decimal_nonempty m fits)) (decimal_simple m fits), tt))

-- the only token
only_one : (o : Option ℕ) (token : Token) → only (λ t. o) (token ∷ []) ≡ o
unfolding only front
only_one None token = refl
only_one (Some n) token = refl

now_said : (numbers : Numbers) (m : ℕ) → m < 2 ^ 64
    → said numbers (codes "now" ∷ decimal m ∷ []) ≡ option_map lines.Plain (option_map stmts.Now (kept numbers 0 max_moment m))
unfolding said session plain front plain_by stmt_by only moment keyword table_keyword other_keyword drill_keyword
now_said numbers m fits = rw (number_again m fits) (ap (λ (o : Option ℕ). option_map lines.Plain (option_map stmts.Now o)) (only_one (kept numbers 0 max_moment m) (decimal m)))

-- what tokens say, the line says that has a space between each two
tokens_say : (numbers : Numbers) (first : Token) (others : List Token) → AllPrinted (first ∷ others) → is_blank (joined first others) ≡ false
    → length (joined first others) ≤ max_line → line_by numbers (joined first others) ≡ said numbers (first ∷ others)
unfolding content_line
tokens_say numbers first others printed blank short =
    rw (no_return (joined first others) (joined_on first others printed), blank, le-leb (length (joined first others)) max_line short, tokens_back first others printed) refl

now_short : (m : ℕ) → m < 2 ^ 64 → length (joined (codes "now") (decimal m ∷ [])) ≤ max_line
now_short m fits =
    let digits : length (decimal m) ≤ 20 = length-decimal-le 20 m (lit< tt) (omega arith) fits in
    omega (arith, length-append (decimal m) [])

now_by : (numbers : Numbers) (m : ℕ) → m < 2 ^ 64
    → line_by numbers (plain_line (stmts.Now m)) ≡ option_map lines.Plain (option_map stmts.Now (kept numbers 0 max_moment m))
unfolding line_text stmt_text
now_by numbers m fits =
    tokens_say numbers (codes "now") (decimal m ∷ []) (now_tokens m fits) (word_not_blank words.Now (32 ∷ (decimal m ++ []))) (now_short m fits) ∙ now_said numbers m fits

chosen : (b : Bool) (m wide : ℕ) → answer_by (option_map lines.Plain (option_map stmts.Now (if b then Some m else None))) (Some (lines.Plain (stmts.Now wide)))
    ≡ (if b then Ok (lines.Plain (stmts.Now m)) else Err fails.NumberTooWide)
chosen true m wide = refl
chosen false m wide = refl

pub now_read : (m : ℕ) → m < 2 ^ 64 → answer (plain_line (stmts.Now m)) ≡ read_back (stmts.Now m)
unfolding answer
now_read m fits = rw (now_by in_range m fits, now_by any_width m fits, le-leb 0 m (omega arith)) (chosen (nat_le m max_moment) m _)

-- ---- the other statements

fits_read : (stmt : Stmt) → FitsLine (lines.Plain stmt) → answer (plain_line stmt) ≡ Ok (lines.Plain stmt)
unfolding answer
fits_read stmt fits = rw (line_back (lines.Plain stmt) fits) refl

short_line : (stmt : Stmt) (n : ℕ) → length (ended_line stmt) ≤ n → n ≤ max_line → length (plain_line stmt) ≤ max_line
short_line stmt n short few = omega (arith, length-append (plain_line stmt) (10 ∷ []))

change_fits : (c : Change) (k v : ℕ) → k < 10 ^ 4 → v < 10 ^ 5 → FitsLine (lines.Plain (change_stmt c k v))
change_fits Insert k v few small = record {
  parts = ((refl, (refl, (le-leb k 9223372036854775807 (omega arith), (le-leb v 9223372036854775807 (omega arith), tt)))), refl);
  short = short_line (change_stmt Insert k v) 23 (change_short Insert k v few small) (lit≤ tt);
}
change_fits Update k v few small = record {
  parts = ((refl, (refl, (le-leb k 9223372036854775807 (omega arith), (le-leb v 9223372036854775807 (omega arith), tt)))), refl);
  short = short_line (change_stmt Update k v) 23 (change_short Update k v few small) (lit≤ tt);
}
change_fits Delete k v few small = record {
  parts = ((refl, le-leb k 9223372036854775807 (omega arith)), refl);
  short = short_line (change_stmt Delete k v) 23 (change_short Delete k v few small) (lit≤ tt);
}

create_fits : FitsLine (lines.Plain create_made)
unfolding line_text stmt_text
create_fits = record { parts = ((refl, (refl, (refl, (refl, tt)))), refl); short = lit≤ tt }

notarize_fits : FitsLine (lines.Plain stmts.Notarize)
unfolding line_text stmt_text
notarize_fits = record { parts = (tt, refl); short = lit≤ tt }

validate_fits : FitsLine (lines.Plain stmts.Validate)
unfolding line_text stmt_text
validate_fits = record { parts = (tt, refl); short = lit≤ tt }

-- ---- no line has a feed in it

digits_feedless : (ds : List ℕ) → list_all is_digit ds ≡ true → IsFeedless ds
digits_feedless [] h = refl
digits_feedless (d ∷ ds) h =
    let u = both (is_digit d) (list_all is_digit ds) h in
    rw (ne_eqb d feed (λ is. true≢false (sym u.0 ∙ ap is_digit is)), digits_feedless ds u.1) refl

decimal_feedless : (n : ℕ) → n < 2 ^ 64 → IsFeedless (decimal n)
decimal_feedless n fits = digits_feedless (decimal n) (digits_all n fits)

last_feedless : (ds : List ℕ) → IsFeedless ds → IsFeedless (ds ++ [])
last_feedless ds h = rw append-nil h

now_feedless : (m : ℕ) → m < 2 ^ 64 → IsFeedless (plain_line (stmts.Now m))
unfolding line_text stmt_text
now_feedless m fits = last_feedless (decimal m) (decimal_feedless m fits)

change_feedless : (c : Change) (k v : ℕ) → k < 10 ^ 4 → v < 10 ^ 5 → IsFeedless (plain_line (change_stmt c k v))
unfolding line_text stmt_text
change_feedless Insert k v few small = feedless_append (decimal k) (32 ∷ (decimal v ++ [])) (decimal_feedless k (omega arith)) (last_feedless (decimal v) (decimal_feedless v (omega arith)))
change_feedless Update k v few small = feedless_append (decimal k) (32 ∷ (decimal v ++ [])) (decimal_feedless k (omega arith)) (last_feedless (decimal v) (decimal_feedless v (omega arith)))
change_feedless Delete k v few small = last_feedless (decimal k) (decimal_feedless k (omega arith))

-- ---- each statement of a script

record IsRead (stmt : Stmt) : Type 0 where
  feedless : IsFeedless (plain_line stmt)
  read : answer (plain_line stmt) ≡ read_back stmt

abbrev AreRead : List Stmt → Type 0
AreRead stmts = AllByRecursion IsRead stmts

change_read : (c : Change) (k v : ℕ) → k < 10 ^ 4 → v < 10 ^ 5 → IsRead (change_stmt c k v)
change_read Insert k v few small = record { feedless = change_feedless Insert k v few small; read = fits_read (change_stmt Insert k v) (change_fits Insert k v few small) }
change_read Update k v few small = record { feedless = change_feedless Update k v few small; read = fits_read (change_stmt Update k v) (change_fits Update k v few small) }
change_read Delete k v few small = record { feedless = change_feedless Delete k v few small; read = fits_read (change_stmt Delete k v) (change_fits Delete k v few small) }

now_is_read : (m : ℕ) → m < 2 ^ 64 → IsRead (stmts.Now m)
now_is_read m fits = record { feedless = now_feedless m fits; read = now_read m fits }

steps_read : (n width : ℕ) (m : Progress) (rest : List Stmt) → AreRead rest → AreRead (steps n width m ++ rest)
unfolding steps
steps_read zero width m rest h = h
steps_read (suc n) width m rest h = (
  now_is_read (next_moment width m) (omega arith),
  (change_read (change_at m) (key m) (amount m) (omega arith) (omega arith), steps_read n width (after_step width m) rest h),
)

create_read : IsRead create_made
unfolding line_text stmt_text
create_read = record { feedless = refl; read = fits_read create_made create_fits }

notarize_read : IsRead stmts.Notarize
unfolding line_text stmt_text
notarize_read = record { feedless = refl; read = fits_read stmts.Notarize notarize_fits }

validate_read : IsRead stmts.Validate
unfolding line_text stmt_text
validate_read = record { feedless = refl; read = fits_read stmts.Validate validate_fits }

script_read : (width last seed count : ℕ) → AreRead (script_stmts width last seed count)
unfolding script_stmts
script_read width last seed count = (create_read, steps_read count width (before_steps last seed) (stmts.Notarize ∷ stmts.Validate ∷ []) (notarize_read, (validate_read, tt)))

-- ---- the lines of the text

lines_are : (stmts : List Stmt) → AreRead stmts → lines_of (flat_map ended_line stmts) ≡ map plain_line stmts
lines_are [] h = lines_none
lines_are (stmt ∷ rest) h =
    ap lines_of (append_assoc (plain_line stmt) (10 ∷ []) (flat_map ended_line rest))
    ∙ lines_first (plain_line stmt) (flat_map ended_line rest) h.0.feedless
    ∙ ap (λ (xs : List (List ℕ)). plain_line stmt ∷ xs) (lines_are rest h.1)

answers_are : (stmts : List Stmt) → AreRead stmts → map answer (map plain_line stmts) ≡ map read_back stmts
answers_are [] h = refl
answers_are (stmt ∷ rest) h = ap₂ (λ x xs. x ∷ xs) h.0.read (answers_are rest h.1)

script_lines : (width last seed count : ℕ) → lines_of (script width last seed count) ≡ map plain_line (script_stmts width last seed count)
unfolding script
script_lines width last seed count = lines_are (script_stmts width last seed count) (script_read width last seed count)

pub scripts_are_read : ScriptsAreRead
scripts_are_read = record {
  lines = script_lines;
  answers = λ width last seed count.
      ap (map answer) (script_lines width last seed count) ∙ answers_are (script_stmts width last seed count) (script_read width last seed count);
}

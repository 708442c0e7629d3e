-- The grammar, by cases on what is said: which line says which value, with numbers in their ranges or of any width.
use Rattle.std.specs.Prelude.{◌≡◌, ℕ, ◌≤◌, Bool, true, false, ◌&&◌, not, min, List, [], ◌∷◌, ◌++◌, length, Option, Some, None, Ok, codes, decimal}
use Rattle.std.specs.List.{flat_map, filter, list_all}
use Rattle.hex.specs.Hex.{decode_of}
use Rattle.tuple_bytes.specs.declared.op.Column.{Column}
use Rattle.tuple_bytes.specs.declared.value.Value.{Value}
use Rattle.tuple_bytes.specs.declared.value.Value.TheVariants as values
use Rattle.tuple_bytes.specs.declared.filter.Filter.{Filter}
use Rattle.tuple_bytes.specs.Limits.{max_moment}
use Rattle.stmt_text.specs.declared.stmt.LineAlgorithm.{LineAlgorithm}
use Rattle.stmt_text.specs.declared.stmt.LineAlgorithm.TheVariants as algorithms
use Rattle.stmt_text.specs.declared.stmt.Stmt.{Stmt}
use Rattle.stmt_text.specs.declared.stmt.Stmt.TheVariants as stmts
use Rattle.stmt_text.specs.declared.event.Event.{Event}
use Rattle.stmt_text.specs.declared.event.Event.TheVariants as events
use Rattle.stmt_text.specs.declared.line.Line.{Line}
use Rattle.stmt_text.specs.declared.line.Line.TheVariants as lines
use Rattle.stmt_text.specs.Tokens.{Token, separates, inside_after, is_filled, tokens}
use Rattle.stmt_text.specs.declared.number.Numbers.{Numbers}
use Rattle.stmt_text.specs.declared.number.Numbers.TheVariants as modes
use Rattle.stmt_text.specs.Numbers.{number, int, any_width, in_range, max_era, max_u64}
use Rattle.stmt_text.specs.Values.{quoted, is_text, hex_quoted, nearest_value, value_in_range}
use Rattle.stmt_text.specs.Keywords.{stmt_keyword, is_session_word, is_for_session}
use Rattle.stmt_text.specs.Rows.{is_row, are_columns}
use Rattle.stmt_text.specs.Statements.{may_name_era}
use Rattle.stmt_text.specs.Events.{is_altering}
use Rattle.stmt_text.specs.Lines.{without_return, is_blank, max_line}
use Rattle.stmt_text.specs.Printing.{kind_token, compare_token, algs_token, stmt_word, event_word}
use Rattle.stmt_text.specs.Fits.{FitsName}

-- ---- tokens

-- spaces stand only between quotes, and each quote that opens is closed
abbrev pub is_closed : Bool → List ℕ → Bool
is_closed inside [] = not inside
is_closed inside (b ∷ bytes) = not (separates inside b) && is_closed (inside_after inside b) bytes

-- a piece, and then a space and a piece as often as wanted
abbrev pub joined : List ℕ → List (List ℕ) → List ℕ
joined first others = first ++ flat_map (λ piece. 32 ∷ piece) others

-- The line is closed pieces with a space between each two; the tokens are those pieces that are not empty.
pub record HasTokens (line : List ℕ) (found : List Token) : Type 0 where
  pub first : List ℕ
  pub others : List (List ℕ)
  pub line_is : line ≡ joined first others
  pub closed : list_all (is_closed false) (first ∷ others) ≡ true
  pub found_is : found ≡ filter is_filled (first ∷ others)

-- ---- values

-- the bytes between the quotes are these, written as hexadecimal digits in either case
pub record SaysBytes (token : Token) (bytes : List ℕ) : Type 0 where
  pub digits : List ℕ
  pub token_is : token ≡ hex_quoted digits
  pub bytes_are : decode_of digits ≡ Ok bytes

-- what a token says, by cases on the value
abbrev pub SaysValue : Token → Value → Type 0
SaysValue token values.Null = token ≡ codes "null"
SaysValue token (values.Bool true) = token ≡ codes "true"
SaysValue token (values.Bool false) = token ≡ codes "false"
SaysValue token (values.Int z) = int token ≡ Some z
SaysValue token (values.Text text) = (token ≡ quoted text) × (is_text text ≡ true)
SaysValue token (values.Bytes bytes) = SaysBytes token bytes

-- ---- parts

-- A value whose number is in its range; with numbers of any width the nearest in its range stands for it.
abbrev pub Says : Numbers → Token → Value → Type 0
Says modes.InRange token v = SaysValue token v × (value_in_range v ≡ true)
Says modes.AnyWidth token v = (spelled : Value) × SaysValue token spelled × (v ≡ nearest_value spelled)

-- A number from the least to the greatest; with numbers of any width the greatest stands for all above it.
abbrev pub SaysNumber : Numbers → ℕ → ℕ → Token → ℕ → Type 0
SaysNumber modes.InRange least greatest token n = (number token ≡ Some n) × (least ≤ n) × (n ≤ greatest)
SaysNumber modes.AnyWidth least greatest token n = (spelled : ℕ) × (number token ≡ Some spelled) × (n ≡ min spelled greatest)

-- one token for each value
abbrev pub SayValues : Numbers → List Token → List Value → Type 0
SayValues numbers [] [] = Unit {0}
SayValues numbers [] (v ∷ vs) = ⊥
SayValues numbers (t ∷ ts) [] = ⊥
SayValues numbers (t ∷ ts) (v ∷ vs) = Says numbers t v × SayValues numbers ts vs

-- a name and a kind for each column
abbrev pub SayColumns : List Token → List Column → Type 0
SayColumns ts [] = ts ≡ []
SayColumns ts (c ∷ cs) =
    (others : List Token) × (ts ≡ c.name ∷ kind_token c.kind ∷ others) × FitsName c.name
    × SayColumns others cs

-- nothing, or `as of` and a moment
abbrev pub SayAsOf : Numbers → List Token → Option ℕ → Type 0
SayAsOf numbers ts None = ts ≡ []
SayAsOf numbers ts (Some m) =
    (token : Token) × (ts ≡ codes "as" ∷ codes "of" ∷ token ∷ []) × SaysNumber numbers 0 max_moment token m

-- the algorithm of an analysis, and what stands behind it
abbrev pub SayAlgorithm : Numbers → List Token → LineAlgorithm → List Token → Type 0
SayAlgorithm numbers ts algorithms.Mono others = ts ≡ codes "mono" ∷ others
SayAlgorithm numbers ts algorithms.Tiled others = ts ≡ codes "tiled" ∷ others
SayAlgorithm numbers ts (algorithms.TiledExactly n) others =
    (token : Token) × (ts ≡ codes "tiled" ∷ token ∷ others) × SaysNumber numbers 1 1024 token n
SayAlgorithm numbers ts algorithms.A3d others = ts ≡ codes "a3d" ∷ others

-- nothing, or `era` and its number
abbrev pub SayEra : Numbers → List Token → Option ℕ → Type 0
SayEra numbers ts None = ts ≡ []
SayEra numbers ts (Some e) =
    (token : Token) × (ts ≡ codes "era" ∷ token ∷ []) × SaysNumber numbers 0 max_era token e

-- a filter, where there is one, and what stands behind it
abbrev pub SayFilter : Numbers → List Token → Option Filter → List Token → Type 0
SayFilter numbers ts None others = ts ≡ others
SayFilter numbers ts (Some f) others =
    (bound : Token) × (ts ≡ f.column ∷ compare_token f.compare ∷ bound ∷ others)
    × FitsName f.column × Says numbers bound f.value

-- ---- statements and drill lines

-- what stands behind the first word of a statement
abbrev pub SayStmt : Numbers → List Token → Stmt → Type 0
SayStmt numbers ts (stmts.Create table columns) =
    (others : List Token) × (ts ≡ table ∷ others) × FitsName table
    × SayColumns others columns × (are_columns columns ≡ true)
SayStmt numbers ts (stmts.Insert table row) =
    (others : List Token) × (ts ≡ table ∷ others) × FitsName table
    × SayValues numbers others row × (is_row row ≡ true)
SayStmt numbers ts (stmts.Update table row) =
    (others : List Token) × (ts ≡ table ∷ others) × FitsName table
    × SayValues numbers others row × (is_row row ≡ true)
SayStmt numbers ts (stmts.Delete table key) =
    (token : Token) × (ts ≡ table ∷ token ∷ []) × FitsName table × Says numbers token key
SayStmt numbers ts (stmts.Get table key m) =
    (token : Token) × (others : List Token) × (ts ≡ table ∷ token ∷ others) × FitsName table
    × Says numbers token key × SayAsOf numbers others m
SayStmt numbers ts (stmts.Scan table filter m) =
    (others : List Token) × (more : List Token) × (ts ≡ table ∷ others) × FitsName table
    × SayFilter numbers others filter more × SayAsOf numbers more m
SayStmt numbers ts (stmts.History table key) =
    (token : Token) × (ts ≡ table ∷ token ∷ []) × FitsName table × Says numbers token key
SayStmt numbers ts (stmts.OverSelect from to table filter) =
    (a : Token) × (b : Token) × (others : List Token) × (ts ≡ a ∷ codes "to" ∷ b ∷ codes "select" ∷ table ∷ others)
    × SaysNumber numbers 0 max_moment a from × SaysNumber numbers 0 max_moment b to
    × FitsName table × SayFilter numbers others filter []
SayStmt numbers ts (stmts.OverJoin from to left right left_column right_column) =
    (a : Token) × (b : Token)
    × (ts ≡ a ∷ codes "to" ∷ b ∷ codes "join" ∷ left ∷ right ∷ codes "on" ∷ left_column ∷ right_column ∷ [])
    × SaysNumber numbers 0 max_moment a from × SaysNumber numbers 0 max_moment b to
    × FitsName left × FitsName right × FitsName left_column × FitsName right_column
SayStmt numbers ts stmts.Begin = ts ≡ []
SayStmt numbers ts stmts.Commit = ts ≡ []
SayStmt numbers ts stmts.Abort = ts ≡ []
SayStmt numbers ts stmts.Notarize = ts ≡ []
SayStmt numbers ts stmts.Validate = ts ≡ []
SayStmt numbers ts stmts.Audit = ts ≡ []
SayStmt numbers ts (stmts.Policy k chains) = (ts ≡ decimal k ∷ algs_token chains ∷ []) × (k ≤ 10) × (chains ≤ 3)
SayStmt numbers ts (stmts.Analyse a e) =
    (others : List Token) × SayAlgorithm numbers ts a others × SayEra numbers others e × (may_name_era a e ≡ true)
SayStmt numbers ts (stmts.Now m) = (token : Token) × (ts ≡ token ∷ []) × SaysNumber numbers 0 max_moment token m

-- what stands behind the first word of a drill line, with each number spelled as it is printed
abbrev pub SayEvent : List Token → Event → Type 0
SayEvent ts (events.Init id width k chains) =
    (ts ≡ decimal id ∷ decimal width ∷ decimal k ∷ algs_token chains ∷ [])
    × (id ≤ max_u64) × ((1 ≤ width) × (width ≤ 86400)) × (k ≤ 10) × (chains ≤ 3)
SayEvent ts (events.Crash after choice) =
    (ts ≡ decimal after ∷ decimal choice ∷ []) × (after ≤ 1000000) × (choice ≤ max_u64)
SayEvent ts (events.Alter place bytes) =
    (digits : Token) × (ts ≡ decimal place ∷ digits ∷ [])
    × (decode_of digits ≡ Ok bytes) × (place ≤ max_u64) × (is_altering bytes ≡ true)
SayEvent ts (events.Cut len) = (ts ≡ decimal len ∷ []) × (len ≤ max_u64)

-- ---- lines

-- what the tokens of a line say that is not blank
abbrev pub SayLine : Numbers → List Token → Line → Type 0
SayLine numbers ts lines.Blank = ⊥
SayLine numbers ts (lines.Plain s) =
    (others : List Token) × (ts ≡ stmt_word s ∷ others)
    × SayStmt numbers others s × (is_session_word (stmt_keyword s) ≡ false)
SayLine numbers ts (lines.InSession n s) =
    (others : List Token) × (ts ≡ (115 ∷ decimal n) ∷ stmt_word s ∷ others)
    × (n ≤ 15) × SayStmt numbers others s × (is_for_session (stmt_keyword s) ≡ true)
SayLine numbers ts (lines.Drill e) = (others : List Token) × (ts ≡ event_word e ∷ others) × SayEvent others e

-- a line of words, which is not blank and has no more bytes than a line may have
pub record SaysWords (numbers : Numbers) (content : List ℕ) (l : Line) : Type 0 where
  pub filled : is_blank content ≡ false
  pub short : length content ≤ max_line
  pub said : SayLine numbers (tokens content) l

-- what a line says that has lost its carriage return
abbrev pub SaysContent : Numbers → List ℕ → Line → Type 0
SaysContent numbers content lines.Blank = is_blank content ≡ true
SaysContent numbers content (lines.Plain s) = SaysWords numbers content (lines.Plain s)
SaysContent numbers content (lines.InSession n s) = SaysWords numbers content (lines.InSession n s)
SaysContent numbers content (lines.Drill e) = SaysWords numbers content (lines.Drill e)

-- the line that bytes say
abbrev pub SaysLine : Numbers → List ℕ → Line → Type 0
SaysLine numbers bytes l = SaysContent numbers (without_return bytes) l

-- ---- what is refused

-- no line of the grammar, whatever the width of its numbers
abbrev pub IsNoLine : List ℕ → Type 0
IsNoLine bytes = (l : Line) → SaysLine any_width bytes l → ⊥

-- a line of the grammar with numbers of any width, in which a number is out of its range
pub record IsTooWide (bytes : List ℕ) : Type 0 where
  pub wide : (l : Line) × SaysLine any_width bytes l
  pub refused : (l : Line) → SaysLine in_range bytes l → ⊥

-- What is printed of a value says that value.
use Rattle.std.proofs.Common.{◌≡◌, ℕ, ◌<◌, ◌≤◌, ◌^◌, true, false, List, [], ◌∷◌, ◌++◌, map, Option, Some, None, refl, subst, arith, decimal, append-nil}
use Rattle.std.specs.List.{flat_map, AllByRecursion}
use Rattle.hex.specs.Hex.{encode_lower}
use Rattle.hex.proofs.HexLemmas.{decode_of-encode_lower}
use Rattle.tuple_bytes.specs.declared.value.Value.{Value}
use Rattle.tuple_bytes.specs.declared.value.Value.TheVariants as values
use Rattle.tuple_bytes.specs.declared.op.Column.{Column}
use Rattle.tuple_bytes.specs.declared.filter.Filter.{Filter}
use Rattle.tuple_bytes.specs.Limits.{max_moment}
use Rattle.stmt_text.specs.declared.stmt.LineAlgorithm.{LineAlgorithm}
use Rattle.stmt_text.specs.declared.stmt.LineAlgorithm.TheVariants as algorithms
use Rattle.stmt_text.specs.declared.stmt.Stmt.{Stmt}
use Rattle.stmt_text.specs.declared.stmt.Stmt.TheVariants as stmts
use Rattle.stmt_text.specs.declared.event.Event.{Event}
use Rattle.stmt_text.specs.declared.event.Event.TheVariants as events
use Rattle.stmt_text.specs.Tokens.{Token}
use Rattle.stmt_text.specs.Numbers.{in_range, max_era}
use Rattle.stmt_text.specs.Values.{value_in_range}
use Rattle.stmt_text.specs.Printing.{value_token, column_tokens, as_of_tokens, filter_tokens, algorithm_tokens, era_tokens, stmt_tokens, event_tokens}
use Rattle.stmt_text.specs.Fits.{FitsValue, FitsMoment, FitsFilter, FitsColumn, FitsAlgorithm, FitsEra, FitsStmt, FitsEvent}
use Rattle.stmt_text.specs.Grammar.{Says, SaysNumber, SayValues, SayColumns, SayAsOf, SayAlgorithm, SayEra, SayFilter, SayStmt, SayEvent, SaysValue}
use Rattle.stmt_text.proofs.Numerals.{number_again, int_back}

-- ---- parts

says_printed : (v : Value) → FitsValue v → SaysValue (value_token v) v
says_printed values.Null h = refl
says_printed (values.Int z) h = int_back z h
says_printed (values.Text t) h = (refl, h)
says_printed (values.Bytes b) h = record { digits = encode_lower b; token_is = refl; bytes_are = decode_of-encode_lower b h }
says_printed (values.Bool true) h = refl
says_printed (values.Bool false) h = refl

in_range_if : (v : Value) → FitsValue v → value_in_range v ≡ true
in_range_if values.Null h = refl
in_range_if (values.Int z) h = h
in_range_if (values.Text t) h = refl
in_range_if (values.Bytes b) h = refl
in_range_if (values.Bool b) h = refl

value_says : (v : Value) → FitsValue v → Says in_range (value_token v) v
value_says v h = (says_printed v h, in_range_if v h)

number_says : (least greatest n : ℕ) → n < 2 ^ 64 → least ≤ n → n ≤ greatest → SaysNumber in_range least greatest (decimal n) n
number_says least greatest n small low high = (number_again n small, low, high)

moment_says : (m : ℕ) → m ≤ max_moment → SaysNumber in_range 0 max_moment (decimal m) m
moment_says m h = number_says 0 max_moment m (omega arith) (omega arith) h

values_say : (vs : List Value) → AllByRecursion FitsValue vs → SayValues in_range (map value_token vs) vs
values_say [] h = tt
values_say (v ∷ vs) h = (value_says v h.0, values_say vs h.1)

columns_say : (cs : List Column) → AllByRecursion FitsColumn cs → SayColumns (flat_map column_tokens cs) cs
columns_say [] h = refl
columns_say (c ∷ cs) h = (flat_map column_tokens cs, refl, h.0, columns_say cs h.1)

as_of_says : (m : Option ℕ) → FitsMoment m → SayAsOf in_range (as_of_tokens m) m
as_of_says None h = refl
as_of_says (Some m) h = (decimal m, refl, moment_says m h)

filter_says : (f : Option Filter) (ts : List Token) → FitsFilter f → SayFilter in_range (filter_tokens f ++ ts) f ts
filter_says None ts h = refl
filter_says (Some f) ts h = (value_token f.value, refl, h.0, value_says f.value h.1)

only_filter_says : (f : Option Filter) → FitsFilter f → SayFilter in_range (filter_tokens f) f []
only_filter_says f h = subst (λ (ts : List Token). SayFilter in_range ts f []) (append-nil (filter_tokens f)) (filter_says f [] h)

algorithm_says : (a : LineAlgorithm) (ts : List Token) → FitsAlgorithm a → SayAlgorithm in_range (algorithm_tokens a ++ ts) a ts
algorithm_says algorithms.Mono ts h = refl
algorithm_says algorithms.Tiled ts h = refl
algorithm_says (algorithms.TiledExactly n) ts h = (decimal n, refl, number_says 1 1024 n (omega arith) h.0 h.1)
algorithm_says algorithms.A3d ts h = refl

era_says : (e : Option ℕ) → FitsEra e → SayEra in_range (era_tokens e) e
era_says None h = refl
era_says (Some e) h = (decimal e, refl, number_says 0 max_era e (omega arith) (omega arith) h)

-- ---- statements and drill lines

pub stmt_says : (s : Stmt) → FitsStmt s → SayStmt in_range (stmt_tokens s) s
stmt_says (stmts.Create t c) h = (flat_map column_tokens c, refl, h.0, columns_say c h.1.1, h.1.0)
stmt_says (stmts.Insert t r) h = (map value_token r, refl, h.0, values_say r h.1.1, h.1.0)
stmt_says (stmts.Update t r) h = (map value_token r, refl, h.0, values_say r h.1.1, h.1.0)
stmt_says (stmts.Delete t k) h = (value_token k, refl, h.0, value_says k h.1)
stmt_says (stmts.Get t k m) h = (value_token k, as_of_tokens m, refl, h.0, value_says k h.1, as_of_says m h.2)
stmt_says (stmts.Scan t f m) h = (filter_tokens f ++ as_of_tokens m, as_of_tokens m, refl, h.0, filter_says f (as_of_tokens m) h.1, as_of_says m h.2)
stmt_says (stmts.History t k) h = (value_token k, refl, h.0, value_says k h.1)
stmt_says (stmts.OverSelect from to t f) h = (decimal from, decimal to, filter_tokens f, refl, moment_says from h.0, moment_says to h.1, h.2, only_filter_says f h.3)
stmt_says (stmts.OverJoin from to l r a b) h = (decimal from, decimal to, refl, moment_says from h.0, moment_says to h.1, h.2, h.3, h.4, h.5)
stmt_says stmts.Begin h = refl
stmt_says stmts.Commit h = refl
stmt_says stmts.Abort h = refl
stmt_says stmts.Notarize h = refl
stmt_says stmts.Validate h = refl
stmt_says stmts.Audit h = refl
stmt_says (stmts.Policy k chains) h = (refl, h.0, h.1)
stmt_says (stmts.Analyse a e) h = (era_tokens e, algorithm_says a (era_tokens e) h.0, era_says e h.1, h.2)
stmt_says (stmts.Now m) h = (decimal m, refl, moment_says m h)

pub event_says : (e : Event) → FitsEvent e → SayEvent (event_tokens e) e
event_says (events.Init id width k chains) h = (refl, h.0, h.1, h.2, h.3)
event_says (events.Crash after choice) h = (refl, h.0, h.1)
event_says (events.Alter place bytes) h = (encode_lower bytes, refl, decode_of-encode_lower bytes h.2, h.0, h.1)
event_says (events.Cut len) h = (refl, h)

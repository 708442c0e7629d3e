-- What is said fits: each part is in its range, and it is printed no longer than it was written.
use Rattle.std.proofs.Common.{◌≡◌, ℕ, zero, suc, ◌*◌, ◌<◌, ◌≤◌, ◌^◌, Bool, true, false, cond, eqb, List, [], ◌∷◌, ◌++◌, length, map, Option, Some, None, option_map, refl, subst, arith, ℤ, pos, decimal, length-append, append-nil}
use Rattle.std.specs.Prelude.{codes}
use Rattle.std.specs.Fmt.{signed_decimal}
use Rattle.std.specs.List.{flat_map, filter, AllByRecursion}
use Rattle.std.proofs.lemmas.Bool.{leb-true}
use Rattle.hex.specs.Hex.{encode_lower, encode_with}
use Rattle.hex.proofs.HexLemmas.{decode_of-ok}
use Rattle.tuple_bytes.specs.declared.value.Value.{Value}
use Rattle.tuple_bytes.specs.declared.value.Value.TheVariants as values
use Rattle.tuple_bytes.specs.declared.op.Column.{Column}
use Rattle.tuple_bytes.specs.declared.filter.Filter.{Filter}
use Rattle.tuple_bytes.specs.Limits.{max_moment}
use Rattle.stmt_text.specs.declared.stmt.LineAlgorithm.{LineAlgorithm}
use Rattle.stmt_text.specs.declared.stmt.LineAlgorithm.TheVariants as algorithms
use Rattle.stmt_text.specs.declared.stmt.Stmt.{Stmt}
use Rattle.stmt_text.specs.declared.stmt.Stmt.TheVariants as stmts
use Rattle.stmt_text.specs.declared.event.Event.{Event}
use Rattle.stmt_text.specs.declared.event.Event.TheVariants as events
use Rattle.stmt_text.specs.declared.line.Line.{Line}
use Rattle.stmt_text.specs.declared.line.Line.TheVariants as lines
use Rattle.stmt_text.specs.Tokens.{Token, inside_after, separates, is_filled, with_byte, pieces, tokens}
use Rattle.stmt_text.specs.Numbers.{in_range, int, number, minus, int_in_range, max_era}
use Rattle.stmt_text.specs.Values.{hex_quoted}
use Rattle.stmt_text.specs.Lines.{without_return, line_by}
use Rattle.stmt_text.specs.Printing.{value_token, kind_token, compare_token, column_tokens, as_of_tokens, filter_tokens, algorithm_tokens, era_tokens, stmt_word, stmt_tokens, event_word, event_tokens, spaced, stmt_text, event_text, line_text}
use Rattle.stmt_text.specs.Fits.{FitsValue, FitsMoment, FitsFilter, FitsColumn, FitsAlgorithm, FitsEra, FitsStmt, FitsEvent, FitsParts, FitsLine}
use Rattle.stmt_text.specs.Grammar.{Says, SaysNumber, SayValues, SayColumns, SayAsOf, SayAlgorithm, SayEra, SayFilter, SayStmt, SayEvent, SayLine, SaysWords, SaysContent, SaysLine, SaysBytes}
use Rattle.stmt_text.proofs.Choices.{map_takes}
use Rattle.stmt_text.proofs.Numerals.{number_shortest}
use Rattle.stmt_text.proofs.TakenLines.{says_taken}

-- ---- each part is in its range

value_fits : (token : Token) (v : Value) → Says in_range token v → FitsValue v
value_fits token values.Null h = tt
value_fits token (values.Int z) h = h.1
value_fits token (values.Text t) h = h.0.1
value_fits token (values.Bytes b) h = (decode_of-ok h.0.digits b h.0.bytes_are).3
value_fits token (values.Bool b) h = tt

values_fit : (ts : List Token) (vs : List Value) → SayValues in_range ts vs → AllByRecursion FitsValue vs
values_fit ts [] h = tt
values_fit [] (v ∷ vs) h = absurd h
values_fit (t ∷ ts) (v ∷ vs) h = (value_fits t v h.0, values_fit ts vs h.1)

columns_fit : (ts : List Token) (cs : List Column) → SayColumns ts cs → AllByRecursion FitsColumn cs
columns_fit ts [] h = tt
columns_fit ts (c ∷ cs) h = (h.2, columns_fit h.0 cs h.3)

as_of_fits : (ts : List Token) (m : Option ℕ) → SayAsOf in_range ts m → FitsMoment m
as_of_fits ts None h = tt
as_of_fits ts (Some m) h = h.2.2

filter_fits : (ts more : List Token) (f : Option Filter) → SayFilter in_range ts f more → FitsFilter f
filter_fits ts more None h = tt
filter_fits ts more (Some f) h = (h.2, value_fits h.0 f.value h.3)

algorithm_fits : (ts others : List Token) (a : LineAlgorithm) → SayAlgorithm in_range ts a others → FitsAlgorithm a
algorithm_fits ts others algorithms.Mono h = tt
algorithm_fits ts others algorithms.Tiled h = tt
algorithm_fits ts others (algorithms.TiledExactly n) h = (h.2.1, h.2.2)
algorithm_fits ts others algorithms.A3d h = tt

era_fits : (ts : List Token) (e : Option ℕ) → SayEra in_range ts e → FitsEra e
era_fits ts None h = tt
era_fits ts (Some e) h = h.2.2

stmt_fits : (ts : List Token) (s : Stmt) → SayStmt in_range ts s → FitsStmt s
stmt_fits ts (stmts.Create t c) h = (h.2, (h.4, columns_fit h.0 c h.3))
stmt_fits ts (stmts.Insert t r) h = (h.2, (h.4, values_fit h.0 r h.3))
stmt_fits ts (stmts.Update t r) h = (h.2, (h.4, values_fit h.0 r h.3))
stmt_fits ts (stmts.Delete t k) h = (h.2, value_fits h.0 k h.3)
stmt_fits ts (stmts.Get t k m) h = (h.3, value_fits h.0 k h.4, as_of_fits h.1 m h.5)
stmt_fits ts (stmts.Scan t f m) h = (h.3, filter_fits h.0 h.1 f h.4, as_of_fits h.1 m h.5)
stmt_fits ts (stmts.History t k) h = (h.2, value_fits h.0 k h.3)
stmt_fits ts (stmts.OverSelect from to t f) h = (h.4.2, h.5.2, h.6, filter_fits h.2 [] f h.7)
stmt_fits ts (stmts.OverJoin from to l r a b) h = (h.3.2, h.4.2, h.5, h.6, h.7, h.8)
stmt_fits ts stmts.Begin h = tt
stmt_fits ts stmts.Commit h = tt
stmt_fits ts stmts.Abort h = tt
stmt_fits ts stmts.Notarize h = tt
stmt_fits ts stmts.Validate h = tt
stmt_fits ts stmts.Audit h = tt
stmt_fits ts (stmts.Policy k chains) h = (h.1, h.2)
stmt_fits ts (stmts.Analyse a e) h = (algorithm_fits ts h.0 a h.1, era_fits h.0 e h.2, h.3)
stmt_fits ts (stmts.Now m) h = h.2.2

event_fits : (ts : List Token) (e : Event) → SayEvent ts e → FitsEvent e
event_fits ts (events.Init id width k chains) h = (h.1, h.2, h.3, h.4)
event_fits ts (events.Crash after choice) h = (h.1, h.2)
event_fits ts (events.Alter place bytes) h = (h.3, h.4, (decode_of-ok h.0 bytes h.2).3)
event_fits ts (events.Cut len) h = h.1

line_fits : (ts : List Token) (l : Line) → SayLine in_range ts l → FitsParts l
line_fits ts lines.Blank h = absurd h
line_fits ts (lines.Plain s) h = (stmt_fits h.0 s h.2, h.3)
line_fits ts (lines.InSession n s) h = (h.2, stmt_fits h.0 s h.3, h.4)
line_fits ts (lines.Drill e) h = event_fits h.0 e h.2

-- ---- a token is printed no longer than it was written

minus_shortest : (rest : Token) (n : ℕ) → number rest ≡ Some n → int_in_range (minus n) ≡ true → length (signed_decimal (minus n)) ≤ suc (length rest)
minus_shortest rest zero g h = let short = number_shortest rest 0 g (omega arith) in omega (arith, short)
minus_shortest rest (suc n) g h =
    let le : n ≤ 9223372036854775807 = leb-true n 9223372036854775807 h in
    let short = number_shortest rest (suc n) g (omega arith) in
    omega (arith, short)

pos_shortest : (token : Token) (n : ℕ) → number token ≡ Some n → int_in_range (pos n) ≡ true → length (signed_decimal (pos n)) ≤ length token
pos_shortest token n g h =
    let le : n ≤ 9223372036854775807 = leb-true n 9223372036854775807 h in
    number_shortest token n g (omega arith)

int_shortest : (token : Token) (z : ℤ) → int token ≡ Some z → int_in_range z ≡ true → length (signed_decimal z) ≤ length token
unfolding int
int_shortest [] z e = absurd cc
int_shortest (b ∷ rest) z e = by (eqb b 45) e
  where
    by : (s : Bool) → cond s (option_map minus (number rest)) (option_map pos (number (b ∷ rest))) ≡ Some z → int_in_range z ≡ true → length (signed_decimal z) ≤ length (b ∷ rest)
    by true f = map_takes minus (number rest) z (λ y. int_in_range y ≡ true → length (signed_decimal y) ≤ length (b ∷ rest)) (minus_shortest rest) f
    by false f = map_takes pos (number (b ∷ rest)) z (λ y. int_in_range y ≡ true → length (signed_decimal y) ≤ length (b ∷ rest)) (pos_shortest (b ∷ rest)) f

length-encode_lower : (bytes : List ℕ) → length (encode_lower bytes) ≡ 2 * length bytes
unfolding encode_with
length-encode_lower [] = refl
length-encode_lower (b ∷ bytes) = let more = length-encode_lower bytes in omega (arith, more)

hex_shortest : (token : Token) (bytes : List ℕ) → SaysBytes token bytes → length (hex_quoted (encode_lower bytes)) ≤ length token
hex_shortest token bytes h =
    let twice = (decode_of-ok h.digits bytes h.bytes_are).2 in
    let own = length-encode_lower bytes in
    let printed = length-append (encode_lower bytes) (39 ∷ []) in
    let written = length-append h.digits (39 ∷ []) in
    rw h.token_is (omega (arith, twice, own, printed, written))

value_shortest : (token : Token) (v : Value) → Says in_range token v → length (value_token v) ≤ length token
value_shortest token values.Null h = rw h.0 (omega arith)
value_shortest token (values.Int z) h = int_shortest token z h.0 h.1
value_shortest token (values.Text t) h = rw h.0.0 (omega arith)
value_shortest token (values.Bytes b) h = hex_shortest token b h.0
value_shortest token (values.Bool true) h = rw h.0 (omega arith)
value_shortest token (values.Bool false) h = rw h.0 (omega arith)

decimal_shortest : (least greatest n : ℕ) (token : Token) → greatest < 2 ^ 64 → SaysNumber in_range least greatest token n → length (decimal n) ≤ length token
decimal_shortest least greatest n token small h = let high = h.2 in number_shortest token n h.0 (omega (arith, high, small))

-- ---- and so are all the tokens of a line

more : (t u : Token) (ts us : List Token) → length t ≤ length u → length (spaced ts) ≤ length (spaced us) → length (spaced (t ∷ ts)) ≤ length (spaced (u ∷ us))
more t u ts us here there =
    let left = length-append (32 ∷ t) (spaced ts) in
    let right = length-append (32 ∷ u) (spaced us) in
    omega (arith, left, right, here, there)

-- a token that is printed as it was written
same : (t : Token) (ts us : List Token) → length (spaced ts) ≤ length (spaced us) → length (spaced (t ∷ ts)) ≤ length (spaced (t ∷ us))
same t ts us there = more t t ts us (omega arith) there

values_shortest : (ts : List Token) (vs : List Value) → SayValues in_range ts vs → length (spaced (map value_token vs)) ≤ length (spaced ts)
values_shortest ts [] h = omega arith
values_shortest [] (v ∷ vs) h = absurd h
values_shortest (t ∷ ts) (v ∷ vs) h = more (value_token v) t (map value_token vs) ts (value_shortest t v h.0) (values_shortest ts vs h.1)

columns_shortest : (ts : List Token) (cs : List Column) → SayColumns ts cs → length (spaced (flat_map column_tokens cs)) ≤ length (spaced ts)
columns_shortest ts [] h = omega arith
columns_shortest ts (c ∷ cs) h =
    rw h.1 (same c.name (kind_token c.kind ∷ flat_map column_tokens cs) (kind_token c.kind ∷ h.0) (same (kind_token c.kind) (flat_map column_tokens cs) h.0 (columns_shortest h.0 cs h.3)))

as_of_shortest : (ts : List Token) (m : Option ℕ) → SayAsOf in_range ts m → length (spaced (as_of_tokens m)) ≤ length (spaced ts)
as_of_shortest ts None h = omega arith
as_of_shortest ts (Some m) h =
    rw h.1 (same (codes "as") (codes "of" ∷ decimal m ∷ []) (codes "of" ∷ h.0 ∷ []) (same (codes "of") (decimal m ∷ []) (h.0 ∷ []) (more (decimal m) h.0 [] [] (decimal_shortest 0 max_moment m h.0 (omega arith) h.2) (omega arith))))

filter_shortest : (ts others shorter : List Token) (f : Option Filter) → SayFilter in_range ts f others → length (spaced shorter) ≤ length (spaced others) → length (spaced (filter_tokens f ++ shorter)) ≤ length (spaced ts)
filter_shortest ts others shorter None h a = rw h a
filter_shortest ts others shorter (Some f) h a =
    rw h.1 (same f.column (compare_token f.compare ∷ value_token f.value ∷ shorter) (compare_token f.compare ∷ h.0 ∷ others) (same (compare_token f.compare) (value_token f.value ∷ shorter) (h.0 ∷ others) (more (value_token f.value) h.0 shorter others (value_shortest h.0 f.value h.3) a)))

only_filter_shortest : (ts : List Token) (f : Option Filter) → SayFilter in_range ts f [] → length (spaced (filter_tokens f)) ≤ length (spaced ts)
only_filter_shortest ts f h =
    subst (λ (us : List Token). length (spaced us) ≤ length (spaced ts)) (append-nil (filter_tokens f)) (filter_shortest ts [] [] f h (omega arith))

algorithm_shortest : (ts others shorter : List Token) (a : LineAlgorithm) → SayAlgorithm in_range ts a others → length (spaced shorter) ≤ length (spaced others) → length (spaced (algorithm_tokens a ++ shorter)) ≤ length (spaced ts)
algorithm_shortest ts others shorter algorithms.Mono h a = rw h (same (codes "mono") shorter others a)
algorithm_shortest ts others shorter algorithms.Tiled h a = rw h (same (codes "tiled") shorter others a)
algorithm_shortest ts others shorter (algorithms.TiledExactly n) h a =
    rw h.1 (same (codes "tiled") (decimal n ∷ shorter) (h.0 ∷ others) (more (decimal n) h.0 shorter others (decimal_shortest 1 1024 n h.0 (omega arith) h.2) a))
algorithm_shortest ts others shorter algorithms.A3d h a = rw h (same (codes "a3d") shorter others a)

era_shortest : (ts : List Token) (e : Option ℕ) → SayEra in_range ts e → length (spaced (era_tokens e)) ≤ length (spaced ts)
era_shortest ts None h = omega arith
era_shortest ts (Some e) h =
    rw h.1 (same (codes "era") (decimal e ∷ []) (h.0 ∷ []) (more (decimal e) h.0 [] [] (decimal_shortest 0 max_era e h.0 (omega arith) h.2) (omega arith)))

-- the two moments of a span
span_shortest : (a b : Token) (from to : ℕ) (shorter others : List Token) → SaysNumber in_range 0 max_moment a from → SaysNumber in_range 0 max_moment b to → length (spaced shorter) ≤ length (spaced others)
    → length (spaced (decimal from ∷ codes "to" ∷ decimal to ∷ shorter)) ≤ length (spaced (a ∷ codes "to" ∷ b ∷ others))
span_shortest a b from to shorter others h k there =
    more (decimal from) a (codes "to" ∷ decimal to ∷ shorter) (codes "to" ∷ b ∷ others) (decimal_shortest 0 max_moment from a (omega arith) h)
    (same (codes "to") (decimal to ∷ shorter) (b ∷ others) (more (decimal to) b shorter others (decimal_shortest 0 max_moment to b (omega arith) k) there))

key_shortest : (ts : List Token) (table : Token) (key : Value) (token : Token) → ts ≡ table ∷ token ∷ [] → Says in_range token key → length (spaced (table ∷ value_token key ∷ [])) ≤ length (spaced ts)
key_shortest ts table key token parts h = rw parts (same table (value_token key ∷ []) (token ∷ []) (more (value_token key) token [] [] (value_shortest token key h) (omega arith)))

stmt_shortest : (ts : List Token) (s : Stmt) → SayStmt in_range ts s → length (spaced (stmt_tokens s)) ≤ length (spaced ts)
stmt_shortest ts (stmts.Create t c) h = rw h.1 (same t (flat_map column_tokens c) h.0 (columns_shortest h.0 c h.3))
stmt_shortest ts (stmts.Insert t r) h = rw h.1 (same t (map value_token r) h.0 (values_shortest h.0 r h.3))
stmt_shortest ts (stmts.Update t r) h = rw h.1 (same t (map value_token r) h.0 (values_shortest h.0 r h.3))
stmt_shortest ts (stmts.Delete t k) h = key_shortest ts t k h.0 h.1 h.3
stmt_shortest ts (stmts.Get t k m) h =
    rw h.2 (same t (value_token k ∷ as_of_tokens m) (h.0 ∷ h.1) (more (value_token k) h.0 (as_of_tokens m) h.1 (value_shortest h.0 k h.4) (as_of_shortest h.1 m h.5)))
stmt_shortest ts (stmts.Scan t f m) h = rw h.2 (same t (filter_tokens f ++ as_of_tokens m) h.0 (filter_shortest h.0 h.1 (as_of_tokens m) f h.4 (as_of_shortest h.1 m h.5)))
stmt_shortest ts (stmts.History t k) h = key_shortest ts t k h.0 h.1 h.3
stmt_shortest ts (stmts.OverSelect from to t f) h =
    rw h.3 (span_shortest h.0 h.1 from to (codes "select" ∷ t ∷ filter_tokens f) (codes "select" ∷ t ∷ h.2) h.4 h.5 (same (codes "select") (t ∷ filter_tokens f) (t ∷ h.2) (same t (filter_tokens f) h.2 (only_filter_shortest h.2 f h.7))))
stmt_shortest ts (stmts.OverJoin from to l r a b) h =
    let columns : List Token = codes "join" ∷ l ∷ r ∷ codes "on" ∷ a ∷ b ∷ [] in
    rw h.2 (span_shortest h.0 h.1 from to columns columns h.3 h.4 (omega arith))
stmt_shortest ts stmts.Begin h = omega arith
stmt_shortest ts stmts.Commit h = omega arith
stmt_shortest ts stmts.Abort h = omega arith
stmt_shortest ts stmts.Notarize h = omega arith
stmt_shortest ts stmts.Validate h = omega arith
stmt_shortest ts stmts.Audit h = omega arith
stmt_shortest ts (stmts.Policy k chains) h = rw h.0 (omega arith)
stmt_shortest ts (stmts.Analyse a e) h = algorithm_shortest ts h.0 (era_tokens e) a h.1 (era_shortest h.0 e h.2)
stmt_shortest ts (stmts.Now m) h = rw h.1 (more (decimal m) h.0 [] [] (decimal_shortest 0 max_moment m h.0 (omega arith) h.2) (omega arith))

event_shortest : (ts : List Token) (e : Event) → SayEvent ts e → length (spaced (event_tokens e)) ≤ length (spaced ts)
event_shortest ts (events.Init id width k chains) h = rw h.0 (omega arith)
event_shortest ts (events.Crash after choice) h = rw h.0 (omega arith)
event_shortest ts (events.Alter place bytes) h =
    let twice = (decode_of-ok h.0 bytes h.2).2 in
    let own = length-encode_lower bytes in
    rw h.1 (same (decimal place) (encode_lower bytes ∷ []) (h.0 ∷ []) (more (encode_lower bytes) h.0 [] [] (omega (arith, twice, own)) (omega arith)))
event_shortest ts (events.Cut len) h = rw h.0 (omega arith)

-- ---- the tokens stand in the line

with_byte_longer : (b : ℕ) (ps : List (List ℕ)) → 0 < length (spaced ps) → length (spaced (with_byte b ps)) ≡ suc (length (spaced ps))
with_byte_longer b [] h = absurd (omega arith)
with_byte_longer b (p ∷ ps) h =
    let left = length-append (32 ∷ b ∷ p) (spaced ps) in
    let right = length-append (32 ∷ p) (spaced ps) in
    omega (arith, left, right)

pieces_by : (s : Bool) (b n : ℕ) (ps qs : List (List ℕ)) → length (spaced ps) ≡ suc n → length (spaced qs) ≡ suc n → length (spaced (cond s ([] ∷ ps) (with_byte b qs))) ≡ suc (suc n)
pieces_by true b n ps qs left right = omega (arith, left)
pieces_by false b n ps qs left right = let longer = with_byte_longer b qs (omega (arith, right)) in omega (arith, right, longer)

pieces_length : (inside : Bool) (bytes : List ℕ) → length (spaced (pieces inside bytes)) ≡ suc (length bytes)
unfolding pieces
pieces_length inside [] = refl
pieces_length inside (b ∷ bytes) =
    pieces_by (separates inside b) b (length bytes) (pieces false bytes) (pieces (inside_after inside b) bytes) (pieces_length false bytes) (pieces_length (inside_after inside b) bytes)

filled_shorter : (ps : List (List ℕ)) → length (spaced (filter is_filled ps)) ≤ length (spaced ps)
filled_shorter [] = omega arith
filled_shorter ([] ∷ ps) = let shorter = filled_shorter ps in omega (arith, shorter)
filled_shorter ((b ∷ p) ∷ ps) = same (b ∷ p) (filter is_filled ps) ps (filled_shorter ps)

tokens_length : (line : List ℕ) → length (spaced (tokens line)) ≤ suc (length line)
unfolding tokens
tokens_length line =
    let all = pieces_length false line in
    let some = filled_shorter (pieces false line) in
    omega (arith, all, some)

text_shortest : (content : List ℕ) (first : Token) (others printed : List Token) → tokens content ≡ first ∷ others → length (spaced printed) ≤ length (spaced others) → length (first ++ spaced printed) ≤ length content
text_shortest content first others printed parts short =
    let stand : length (spaced (first ∷ others)) ≤ suc (length content) = subst (λ (ts : List Token). length (spaced ts) ≤ suc (length content)) parts (tokens_length content) in
    let written = length-append (32 ∷ first) (spaced others) in
    let own = length-append first (spaced printed) in
    omega (arith, stand, written, own, short)

line_shortest : (content : List ℕ) (l : Line) → SayLine in_range (tokens content) l → length (line_text l) ≤ length content
unfolding line_text stmt_text event_text
line_shortest content lines.Blank h = absurd h
line_shortest content (lines.Plain s) h = text_shortest content (stmt_word s) h.0 (stmt_tokens s) h.1 (stmt_shortest h.0 s h.2)
line_shortest content (lines.InSession n s) h =
    text_shortest content (115 ∷ decimal n) (stmt_word s ∷ h.0) (stmt_word s ∷ stmt_tokens s) h.1 (same (stmt_word s) (stmt_tokens s) h.0 (stmt_shortest h.0 s h.3))
line_shortest content (lines.Drill e) h = text_shortest content (event_word e) h.0 (event_tokens e) h.1 (event_shortest h.0 e h.2)

-- ---- lines

words_fit : (content : List ℕ) (l : Line) → SaysWords in_range content l → FitsLine l
words_fit content l h =
    let shorter = line_shortest content l h.said in
    let short = h.short in
    record { parts = line_fits (tokens content) l h.said; short = omega (arith, shorter, short) }

content_fits : (content : List ℕ) (l : Line) → SaysContent in_range content l → FitsLine l
unfolding line_text
content_fits content lines.Blank h = record { parts = tt; short = omega arith }
content_fits content (lines.Plain s) h = words_fit content (lines.Plain s) h
content_fits content (lines.InSession n s) h = words_fit content (lines.InSession n s) h
content_fits content (lines.Drill e) h = words_fit content (lines.Drill e) h

pub says_fits : (bytes : List ℕ) (l : Line) → SaysLine in_range bytes l → FitsLine l
says_fits bytes l h = content_fits (without_return bytes) l h

pub line_fits_read : (bytes : List ℕ) (l : Line) → line_by in_range bytes ≡ Some l → FitsLine l
line_fits_read bytes l e = says_fits bytes l (says_taken in_range bytes l e)

-- The tokens of a printed line are those that it was printed from.
use Rattle.std.proofs.Common.{◌≡◌, ℕ, zero, suc, ◌/◌, ◌%◌, ◌<◌, ◌≤◌, ◌^◌, Bool, true, false, cond, eqb, not, ◌&&◌, List, [], ◌∷◌, ◌++◌, map, Option, Some, None, refl, sym, ap, subst, ◌∙◌, arith, ℤ, pos, negsuc, decimal, get_or, append-nil}
use Rattle.std.specs.Prelude.{codes}
use Rattle.std.specs.Fmt.{signed_decimal}
use Rattle.std.specs.List.{list_all, flat_map, filter, AllByRecursion}
use Rattle.std.proofs.lemmas.Bool.{leb-true, ne_eqb, true≢false}
use Rattle.std.proofs.lemmas.Fmt.{decimal_nonempty}
use Rattle.hex.specs.Hex.{encode_lower, encode_with, lower_digits}
use Rattle.tuple_bytes.specs.Word.{is_word_byte, is_word_start}
use Rattle.tuple_bytes.specs.declared.value.Value.{Value}
use Rattle.tuple_bytes.specs.declared.value.Value.TheVariants as values
use Rattle.tuple_bytes.specs.declared.op.Kind.{Kind}
use Rattle.tuple_bytes.specs.declared.op.Kind.TheVariants as kinds
use Rattle.tuple_bytes.specs.declared.op.Column.{Column}
use Rattle.tuple_bytes.specs.declared.filter.Filter.{Filter}
use Rattle.tuple_bytes.specs.declared.filter.Compare.{Compare}
use Rattle.tuple_bytes.specs.declared.filter.Compare.TheVariants as compares
use Rattle.stmt_text.specs.declared.word.Keyword.{Keyword}
use Rattle.stmt_text.specs.declared.word.Keyword.TheVariants as words
use Rattle.stmt_text.specs.declared.stmt.LineAlgorithm.{LineAlgorithm}
use Rattle.stmt_text.specs.declared.stmt.LineAlgorithm.TheVariants as algorithms
use Rattle.stmt_text.specs.declared.stmt.Stmt.{Stmt}
use Rattle.stmt_text.specs.declared.stmt.Stmt.TheVariants as stmts
use Rattle.stmt_text.specs.declared.event.Event.{Event}
use Rattle.stmt_text.specs.declared.event.Event.TheVariants as events
use Rattle.stmt_text.specs.Tokens.{Token, is_filled, tokens}
use Rattle.stmt_text.specs.Grammar.{is_closed, joined}
use Rattle.stmt_text.specs.Numbers.{is_digit, int_in_range}
use Rattle.stmt_text.specs.Values.{doubled, quoted, hex_quoted, is_text, is_text_byte}
use Rattle.stmt_text.specs.Keywords.{keyword_token}
use Rattle.stmt_text.specs.Events.{is_altering}
use Rattle.stmt_text.specs.Lines.{without_return}
use Rattle.stmt_text.specs.Printing.{value_token, kind_token, compare_token, column_tokens, as_of_tokens, filter_tokens, algorithm_tokens, era_tokens, stmt_tokens, algs_token, event_tokens}
use Rattle.stmt_text.specs.Fits.{FitsValue, FitsName, FitsMoment, FitsFilter, FitsColumn, FitsAlgorithm, FitsEra, FitsStmt, FitsEvent}
use Rattle.stmt_text.proofs.Choices.{both}
use Rattle.stmt_text.proofs.Numerals.{digits_all, filled}
use Rattle.stmt_text.proofs.TokenLaws.{has_again}

-- ---- bytes that neither part tokens nor end a line

abbrev pub is_simple : ℕ → Bool
is_simple b = not (eqb b 32) && not (eqb b 39) && not (eqb b 13)

abbrev pub goes_on : ℕ → Bool
goes_on b = not (eqb b 13)

-- a printed token
pub record IsPrinted (t : Token) : Type 0 where
  pub closed : is_closed false t ≡ true
  pub filled : is_filled t ≡ true
  pub no_end : list_all goes_on t ≡ true

simple_tests : (b : ℕ) → is_simple b ≡ true → (eqb b 32 ≡ false) × (eqb b 39 ≡ false) × (eqb b 13 ≡ false)
simple_tests b h = by (eqb b 32) (eqb b 39) (eqb b 13) h
  where
    by : (x y z : Bool) → not x && not y && not z ≡ true → (x ≡ false) × (y ≡ false) × (z ≡ false)
    by false false false e = (refl, refl, refl)
    by false false true e = absurd cc
    by false true z e = absurd cc
    by true y z e = absurd cc

simple_closed : (t : List ℕ) → list_all is_simple t ≡ true → is_closed false t ≡ true
simple_closed [] h = refl
simple_closed (b ∷ t) h =
    let u = both (is_simple b) (list_all is_simple t) h in
    let s = simple_tests b u.0 in
    rw (s.0, s.1, simple_closed t u.1) refl

simple_on : (t : List ℕ) → list_all is_simple t ≡ true → list_all goes_on t ≡ true
simple_on [] h = refl
simple_on (b ∷ t) h =
    let u = both (is_simple b) (list_all is_simple t) h in
    let s = simple_tests b u.0 in
    rw (s.2, simple_on t u.1) refl

pub printed : (t : Token) → is_filled t ≡ true → list_all is_simple t ≡ true → IsPrinted t
printed t some h = record { closed = simple_closed t h; filled = some; no_end = simple_on t h }

all_by : (p q : ℕ → Bool) → ((b : ℕ) → p b ≡ true → q b ≡ true) → (t : List ℕ) → list_all p t ≡ true → list_all q t ≡ true
all_by p q h [] e = refl
all_by p q h (b ∷ t) e = let u = both (p b) (list_all p t) e in rw (h b u.0, all_by p q h t u.1) refl

apart : (b : ℕ) → (b ≡ 32 → ⊥) → (b ≡ 39 → ⊥) → (b ≡ 13 → ⊥) → is_simple b ≡ true
apart b x y z = rw (ne_eqb b 32 x, ne_eqb b 39 y, ne_eqb b 13 z) refl

differs : (p : ℕ → Bool) (b k : ℕ) → p k ≡ false → p b ≡ true → b ≡ k → ⊥
differs p b k refused h is = true≢false (sym h ∙ ap p is ∙ refused)

digit_simple : (b : ℕ) → is_digit b ≡ true → is_simple b ≡ true
digit_simple b h = apart b (differs is_digit b 32 refl h) (differs is_digit b 39 refl h) (differs is_digit b 13 refl h)

word_simple : (b : ℕ) → is_word_byte b ≡ true → is_simple b ≡ true
word_simple b h = apart b (differs is_word_byte b 32 refl h) (differs is_word_byte b 39 refl h) (differs is_word_byte b 13 refl h)

start_simple : (b : ℕ) → is_word_start b ≡ true → is_simple b ≡ true
start_simple b h = apart b (differs is_word_start b 32 refl h) (differs is_word_start b 39 refl h) (differs is_word_start b 13 refl h)

pub decimal_simple : (n : ℕ) → n < 2 ^ 64 → list_all is_simple (decimal n) ≡ true
decimal_simple n h = all_by is_digit is_simple digit_simple (decimal n) (digits_all n h)

decimal_printed : (n : ℕ) → n < 2 ^ 64 → IsPrinted (decimal n)
decimal_printed n h = printed (decimal n) (filled (decimal n) (decimal_nonempty n h)) (decimal_simple n h)

name_printed : (n : List ℕ) → FitsName n → IsPrinted n
name_printed [] h = absurd cc
name_printed (b ∷ bs) h =
    let u = both _ (list_all is_word_byte bs) h in
    let v = both _ (is_word_start b) u.0 in
    printed (b ∷ bs) refl (rw (start_simple b v.1, all_by is_word_byte is_simple word_simple bs u.1) refl)

int_printed : (z : ℤ) → int_in_range z ≡ true → IsPrinted (signed_decimal z)
int_printed (pos n) h =
    let le : n ≤ 9223372036854775807 = leb-true n 9223372036854775807 h in
    decimal_printed n (omega arith)
int_printed (negsuc n) h =
    let le : n ≤ 9223372036854775807 = leb-true n 9223372036854775807 h in
    printed (45 ∷ decimal (suc n)) refl (decimal_simple (suc n) (omega arith))

-- ---- texts and bytes

hex_glyph : (i : ℕ) → is_simple (get_or lower_digits i 0) ≡ true
hex_glyph zero = refl
hex_glyph (suc zero) = refl
hex_glyph (suc (suc zero)) = refl
hex_glyph (suc (suc (suc zero))) = refl
hex_glyph (suc (suc (suc (suc zero)))) = refl
hex_glyph (suc (suc (suc (suc (suc zero))))) = refl
hex_glyph (suc (suc (suc (suc (suc (suc zero)))))) = refl
hex_glyph (suc (suc (suc (suc (suc (suc (suc zero))))))) = refl
hex_glyph (suc (suc (suc (suc (suc (suc (suc (suc zero)))))))) = refl
hex_glyph (suc (suc (suc (suc (suc (suc (suc (suc (suc zero))))))))) = refl
hex_glyph (suc (suc (suc (suc (suc (suc (suc (suc (suc (suc zero)))))))))) = refl
hex_glyph (suc (suc (suc (suc (suc (suc (suc (suc (suc (suc (suc zero))))))))))) = refl
hex_glyph (suc (suc (suc (suc (suc (suc (suc (suc (suc (suc (suc (suc zero)))))))))))) = refl
hex_glyph (suc (suc (suc (suc (suc (suc (suc (suc (suc (suc (suc (suc (suc zero))))))))))))) = refl
hex_glyph (suc (suc (suc (suc (suc (suc (suc (suc (suc (suc (suc (suc (suc (suc zero)))))))))))))) = refl
hex_glyph (suc (suc (suc (suc (suc (suc (suc (suc (suc (suc (suc (suc (suc (suc (suc zero))))))))))))))) = refl
hex_glyph (suc (suc (suc (suc (suc (suc (suc (suc (suc (suc (suc (suc (suc (suc (suc (suc n)))))))))))))))) = refl

hex_simple : (bytes : List ℕ) → list_all is_simple (encode_lower bytes) ≡ true
unfolding encode_with
hex_simple [] = refl
hex_simple (b ∷ bytes) = rw (hex_glyph (b / 16), hex_glyph (b % 16), hex_simple bytes) refl

-- what goes on to a last quote
closes : (t : List ℕ) → list_all is_simple t ≡ true → is_closed true (t ++ 39 ∷ []) ≡ true
closes [] h = refl
closes (b ∷ t) h =
    let u = both (is_simple b) (list_all is_simple t) h in
    let s = simple_tests b u.0 in
    rw (s.0, s.1, closes t u.1) refl

on_append : (t : List ℕ) → list_all goes_on t ≡ true → list_all goes_on (t ++ 39 ∷ []) ≡ true
on_append [] h = refl
on_append (b ∷ t) h = let u = both (goes_on b) (list_all goes_on t) h in rw (u.0, on_append t u.1) refl

blob_printed : (bytes : List ℕ) → IsPrinted (hex_quoted (encode_lower bytes))
blob_printed bytes = record {
  closed = closes (encode_lower bytes) (hex_simple bytes);
  filled = refl;
  no_end = on_append (encode_lower bytes) (simple_on (encode_lower bytes) (hex_simple bytes));
}

and_false : (b : Bool) → b && false ≡ false
and_false true = refl
and_false false = refl

doubled_closes : (t : List ℕ) → is_closed true (doubled t ++ 39 ∷ []) ≡ true
doubled_closes [] = refl
doubled_closes (b ∷ t) = by (eqb b 39) refl (doubled_closes t)
  where
    by : (s : Bool) → eqb b 39 ≡ s → is_closed true (doubled t ++ 39 ∷ []) ≡ true → is_closed true (cond s (39 ∷ 39 ∷ doubled t) (b ∷ doubled t) ++ 39 ∷ []) ≡ true
    by true h e = e
    by false h e = rw (h, and_false (eqb b 32)) e

doubled_on : (t : List ℕ) → list_all goes_on t ≡ true → list_all goes_on (doubled t ++ 39 ∷ []) ≡ true
doubled_on [] h = refl
doubled_on (b ∷ t) h = let u = both (goes_on b) (list_all goes_on t) h in by (eqb b 39) u.0 (doubled_on t u.1)
  where
    by : (s : Bool) → goes_on b ≡ true → list_all goes_on (doubled t ++ 39 ∷ []) ≡ true → list_all goes_on (cond s (39 ∷ 39 ∷ doubled t) (b ∷ doubled t) ++ 39 ∷ []) ≡ true
    by true h e = e
    by false h e = rw (h, e) refl

text_on : (b : ℕ) → is_text_byte b ≡ true → goes_on b ≡ true
text_on b h = rw (ne_eqb b 13 (differs is_text_byte b 13 refl h)) refl

text_printed : (t : List ℕ) → is_text t ≡ true → IsPrinted (quoted t)
unfolding is_text
text_printed t h =
    let u = both (list_all is_text_byte t) _ h in
    record {
      closed = doubled_closes t;
      filled = refl;
      no_end = doubled_on t (all_by is_text_byte goes_on text_on t u.0);
    }

-- ---- all the tokens of a line

value_printed : (v : Value) → FitsValue v → IsPrinted (value_token v)
value_printed values.Null h = printed (codes "null") refl refl
value_printed (values.Int z) h = int_printed z h
value_printed (values.Text t) h = text_printed t h
value_printed (values.Bytes b) h = blob_printed b
value_printed (values.Bool true) h = printed (codes "true") refl refl
value_printed (values.Bool false) h = printed (codes "false") refl refl

abbrev pub AllPrinted : List Token → Type 0
AllPrinted ts = AllByRecursion IsPrinted ts

values_printed : (vs : List Value) → AllByRecursion FitsValue vs → AllPrinted (map value_token vs)
values_printed [] h = tt
values_printed (v ∷ vs) h = (value_printed v h.0, values_printed vs h.1)

kind_printed : (k : Kind) → IsPrinted (kind_token k)
kind_printed kinds.Int = printed (codes "int") refl refl
kind_printed kinds.Text = printed (codes "text") refl refl
kind_printed kinds.Bytes = printed (codes "bytes") refl refl
kind_printed kinds.Bool = printed (codes "bool") refl refl

compare_printed : (c : Compare) → IsPrinted (compare_token c)
compare_printed compares.Equal = printed (codes "=") refl refl
compare_printed compares.NotEqual = printed (codes "!=") refl refl
compare_printed compares.Less = printed (codes "<") refl refl
compare_printed compares.LessOrEqual = printed (codes "<=") refl refl
compare_printed compares.Greater = printed (codes ">") refl refl
compare_printed compares.GreaterOrEqual = printed (codes ">=") refl refl

columns_printed : (cs : List Column) → AllByRecursion FitsColumn cs → AllPrinted (flat_map column_tokens cs)
columns_printed [] h = tt
columns_printed (c ∷ cs) h = (name_printed c.name h.0, (kind_printed c.kind, columns_printed cs h.1))

as_of_printed : (m : Option ℕ) → FitsMoment m → AllPrinted (as_of_tokens m)
as_of_printed None h = tt
as_of_printed (Some m) h = (printed (codes "as") refl refl, (printed (codes "of") refl refl, (decimal_printed m (omega arith), tt)))

filter_printed : (f : Option Filter) (ts : List Token) → FitsFilter f → AllPrinted ts → AllPrinted (filter_tokens f ++ ts)
filter_printed None ts h rest = rest
filter_printed (Some f) ts h rest = (name_printed f.column h.0, (compare_printed f.compare, (value_printed f.value h.1, rest)))

only_filter_printed : (f : Option Filter) → FitsFilter f → AllPrinted (filter_tokens f)
only_filter_printed f h = subst AllPrinted (append-nil (filter_tokens f)) (filter_printed f [] h tt)

algorithm_printed : (a : LineAlgorithm) (ts : List Token) → FitsAlgorithm a → AllPrinted ts → AllPrinted (algorithm_tokens a ++ ts)
algorithm_printed algorithms.Mono ts h rest = (printed (codes "mono") refl refl, rest)
algorithm_printed algorithms.Tiled ts h rest = (printed (codes "tiled") refl refl, rest)
algorithm_printed (algorithms.TiledExactly k) ts h rest = (printed (codes "tiled") refl refl, (decimal_printed k (omega arith), rest))
algorithm_printed algorithms.A3d ts h rest = (printed (codes "a3d") refl refl, rest)

era_printed : (e : Option ℕ) → FitsEra e → AllPrinted (era_tokens e)
era_printed None h = tt
era_printed (Some e) h = (printed (codes "era") refl refl, (decimal_printed e (omega arith), tt))

algs_printed : (n : ℕ) → n ≤ 3 → IsPrinted (algs_token n)
algs_printed zero h = printed (codes "m") refl refl
algs_printed (suc zero) h = printed (codes "t") refl refl
algs_printed (suc (suc zero)) h = printed (codes "a") refl refl
algs_printed (suc (suc (suc zero))) h = printed (codes "ta") refl refl
algs_printed (suc (suc (suc (suc n)))) h = absurd (omega arith)

-- a first word
pub word_printed : (k : Keyword) → IsPrinted (keyword_token k)
word_printed words.Create = printed (codes "create") refl refl
word_printed words.Insert = printed (codes "insert") refl refl
word_printed words.Update = printed (codes "update") refl refl
word_printed words.Delete = printed (codes "delete") refl refl
word_printed words.Get = printed (codes "get") refl refl
word_printed words.Scan = printed (codes "scan") refl refl
word_printed words.History = printed (codes "history") refl refl
word_printed words.Over = printed (codes "over") refl refl
word_printed words.Begin = printed (codes "begin") refl refl
word_printed words.Commit = printed (codes "commit") refl refl
word_printed words.Abort = printed (codes "abort") refl refl
word_printed words.Notarize = printed (codes "notarize") refl refl
word_printed words.Validate = printed (codes "validate") refl refl
word_printed words.Audit = printed (codes "audit") refl refl
word_printed words.Policy = printed (codes "policy") refl refl
word_printed words.Analyse = printed (codes "analyse") refl refl
word_printed words.Now = printed (codes "now") refl refl
word_printed words.Init = printed (codes "init") refl refl
word_printed words.Crash = printed (codes "crash") refl refl
word_printed words.Alter = printed (codes "alter") refl refl
word_printed words.Cut = printed (codes "cut") refl refl

pub stmt_printed : (s : Stmt) → FitsStmt s → AllPrinted (stmt_tokens s)
stmt_printed (stmts.Create t c) h = (name_printed t h.0, columns_printed c h.1.1)
stmt_printed (stmts.Insert t r) h = (name_printed t h.0, values_printed r h.1.1)
stmt_printed (stmts.Update t r) h = (name_printed t h.0, values_printed r h.1.1)
stmt_printed (stmts.Delete t k) h = (name_printed t h.0, (value_printed k h.1, tt))
stmt_printed (stmts.Get t k m) h = (name_printed t h.0, (value_printed k h.1, as_of_printed m h.2))
stmt_printed (stmts.Scan t f m) h = (name_printed t h.0, filter_printed f (as_of_tokens m) h.1 (as_of_printed m h.2))
stmt_printed (stmts.History t k) h = (name_printed t h.0, (value_printed k h.1, tt))
stmt_printed (stmts.OverSelect from to t f) h =
    (decimal_printed from (omega arith), (printed (codes "to") refl refl, (decimal_printed to (omega arith), (printed (codes "select") refl refl, (name_printed t h.2, only_filter_printed f h.3)))))
stmt_printed (stmts.OverJoin from to l r a b) h =
    (decimal_printed from (omega arith), (printed (codes "to") refl refl, (decimal_printed to (omega arith), (printed (codes "join") refl refl, (name_printed l h.2, (name_printed r h.3, (printed (codes "on") refl refl, (name_printed a h.4, (name_printed b h.5, tt)))))))))
stmt_printed stmts.Begin h = tt
stmt_printed stmts.Commit h = tt
stmt_printed stmts.Abort h = tt
stmt_printed stmts.Notarize h = tt
stmt_printed stmts.Validate h = tt
stmt_printed stmts.Audit h = tt
stmt_printed (stmts.Policy k chains) h = (decimal_printed k (omega arith), (algs_printed chains h.1, tt))
stmt_printed (stmts.Analyse a e) h = algorithm_printed a (era_tokens e) h.0 (era_printed e h.1)
stmt_printed (stmts.Now m) h = (decimal_printed m (omega arith), tt)

some_hex : (bytes : List ℕ) → is_altering bytes ≡ true → is_filled (encode_lower bytes) ≡ true
unfolding encode_with
some_hex [] h = absurd cc
some_hex (b ∷ bytes) h = refl

pub event_printed : (e : Event) → FitsEvent e → AllPrinted (event_tokens e)
event_printed (events.Init id width k flags) h = (decimal_printed id (omega arith), (decimal_printed width (omega arith), (decimal_printed k (omega arith), (algs_printed flags h.3, tt))))
event_printed (events.Crash after choice) h = (decimal_printed after (omega arith), (decimal_printed choice (omega arith), tt))
event_printed (events.Alter place bytes) h = (decimal_printed place (omega arith), (printed (encode_lower bytes) (some_hex bytes h.1) (hex_simple bytes), tt))
event_printed (events.Cut len) h = (decimal_printed len (omega arith), tt)

-- ---- from tokens to the line

closed_all : (ts : List Token) → AllPrinted ts → list_all (is_closed false) ts ≡ true
closed_all [] h = refl
closed_all (t ∷ ts) h = rw (h.0.closed, closed_all ts h.1) refl

filled_by : (b : Bool) (t : Token) (ts us : List Token) → b ≡ true → ts ≡ us → cond b (t ∷ ts) ts ≡ t ∷ us
filled_by true t ts us h e = ap (λ (x : List Token). t ∷ x) e
filled_by false t ts us h e = absurd cc

filled_all : (ts : List Token) → AllPrinted ts → filter is_filled ts ≡ ts
filled_all [] h = refl
filled_all (t ∷ ts) h = filled_by (is_filled t) t (filter is_filled ts) ts h.0.filled (filled_all ts h.1)

pub tokens_back : (first : Token) (others : List Token) → AllPrinted (first ∷ others) → tokens (joined first others) ≡ first ∷ others
tokens_back first others h = has_again (joined first others) (first ∷ others) (record {
  first = first;
  others = others;
  line_is = refl;
  closed = closed_all (first ∷ others) h;
  found_is = sym (filled_all (first ∷ others) h);
})

on_both : (xs ys : List ℕ) → list_all goes_on xs ≡ true → list_all goes_on ys ≡ true → list_all goes_on (xs ++ ys) ≡ true
on_both [] ys h k = k
on_both (b ∷ xs) ys h k = let u = both (goes_on b) (list_all goes_on xs) h in rw (u.0, on_both xs ys u.1 k) refl

spaced_on : (ts : List Token) → AllPrinted ts → list_all goes_on (flat_map (λ piece. 32 ∷ piece) ts) ≡ true
spaced_on [] h = refl
spaced_on (t ∷ ts) h = on_both t (flat_map (λ piece. 32 ∷ piece) ts) h.0.no_end (spaced_on ts h.1)

pub joined_on : (first : Token) (others : List Token) → AllPrinted (first ∷ others) → list_all goes_on (joined first others) ≡ true
joined_on first others h = on_both first (flat_map (λ piece. 32 ∷ piece) others) h.0.no_end (spaced_on others h.1)

pub no_return : (x : List ℕ) → list_all goes_on x ≡ true → without_return x ≡ x
unfolding without_return
no_return [] h = refl
no_return (b ∷ []) h = by (eqb b 13) h
  where
    by : (s : Bool) → not s && true ≡ true → cond s [] (b ∷ []) ≡ b ∷ []
    by true e = absurd cc
    by false e = refl
no_return (b ∷ c ∷ x) h = let u = both (goes_on b) (list_all goes_on (c ∷ x)) h in ap (λ (y : List ℕ). b ∷ y) (no_return (c ∷ x) u.1)

-- What is read is said.
use Rattle.std.proofs.Common.{◌≡◌, ℕ, ◌<◌, ◌≤◌, ◌^◌, Bool, true, false, cond, ◌&&◌, List, [], ◌∷◌, Option, Some, None, option_map, refl, sym, ap, subst, ◌∙◌, arith, decimal}
use Rattle.std.specs.Prelude.{codes, min, nat_le}
use Rattle.std.specs.Str.{bytes_eq}
use Rattle.std.proofs.lemmas.Bool.{leb-true}
use Rattle.std.proofs.lemmas.Option.{same_Some}
use Rattle.byte_grammar.specs.Reading.{◌>>=◌}
use Rattle.tuple_bytes.specs.Word.{is_word}
use Rattle.tuple_bytes.specs.declared.value.Value.{Value}
use Rattle.tuple_bytes.specs.declared.op.Column.{Column}
use Rattle.tuple_bytes.specs.declared.filter.Filter.{Filter}
use Rattle.tuple_bytes.specs.Limits.{max_moment}
use Rattle.stmt_text.specs.declared.word.Keyword.{Keyword}
use Rattle.stmt_text.specs.declared.word.Keyword.TheVariants as words
use Rattle.stmt_text.specs.declared.stmt.LineAlgorithm.{LineAlgorithm}
use Rattle.stmt_text.specs.declared.stmt.LineAlgorithm.TheVariants as algorithms
use Rattle.stmt_text.specs.declared.stmt.Stmt.{Stmt}
use Rattle.stmt_text.specs.declared.stmt.Stmt.TheVariants as stmts
use Rattle.stmt_text.specs.Options.{or_else}
use Rattle.stmt_text.specs.Tokens.{Token}
use Rattle.stmt_text.specs.declared.number.Numbers.{Numbers}
use Rattle.stmt_text.specs.declared.number.Numbers.TheVariants as modes
use Rattle.stmt_text.specs.Numbers.{number, any_width, in_range, kept, plain_number, max_era}
use Rattle.stmt_text.specs.Values.{value, nearest_value, value_in_range}
use Rattle.stmt_text.specs.Words.{compare, kind, algorithm_word, algs}
use Rattle.stmt_text.specs.Keywords.{stmt_keyword}
use Rattle.stmt_text.specs.Parts.{kept_value, moment, kappa, era, value_in, name, front, ended, only, each, after_word, behind_word, two_names, as_of, of_era}
use Rattle.stmt_text.specs.Rows.{is_row, are_columns, column_of, row, column, each_column, columns}
use Rattle.stmt_text.specs.Statements.{create, insert, update, delete, get, history, filter_of, filter_at, unfiltered, filtered, scan, span, only_filter, over_select, over_join, over_by, over, alone, policy, may_name_era, in_era, exactly, analyse_by, analyse, stmt_by}
use Rattle.stmt_text.specs.Printing.{kind_token, compare_token, algs_token}
use Rattle.stmt_text.specs.Fits.{FitsName}
use Rattle.stmt_text.specs.Grammar.{Says, SaysNumber, SayValues, SayColumns, SayAsOf, SayAlgorithm, SayEra, SayFilter, SayStmt, SaysValue}
use Rattle.stmt_text.proofs.Choices.{both, bind_some, if_some, where_some, says_if, or_takes, map_takes, same_text}
use Rattle.stmt_text.proofs.Numerals.{plain_takes}
use Rattle.stmt_text.proofs.ValueReads.{value_takes}
use Rattle.stmt_text.proofs.WordReads.{kind_takes, compare_takes, algs_takes}

-- ---- parts

abbrev some_moment : ℕ → Option ℕ
some_moment m = Some m

pub front_takes : {A : Type 0} (read : Token → Option A) (ts : List Token) (x : A × List Token) → front read ts ≡ Some x → (token : Token) × (ts ≡ token ∷ x.1) × (read token ≡ Some x.0)
unfolding front
front_takes read [] x e = absurd cc
front_takes {A} read (token ∷ ts) x e =
    let t = bind_some (read token) (λ a. Some (a, ts)) x e in
    let found : A × List Token = (t.0, ts) in
    let same : found ≡ x = same_Some found x t.2 in
    (token, ap (λ (y : A × List Token). token ∷ y.1) same, t.1 ∙ ap (λ (y : A × List Token). Some y.0) same)

pub ended_takes : (ts : List Token) (u : Unit {0}) → ended ts ≡ Some u → ts ≡ []
ended_takes [] u e = refl
ended_takes (t ∷ ts) u e = absurd cc

name_takes : (token n : List ℕ) → name token ≡ Some n → (token ≡ n) × FitsName n
unfolding name
name_takes token n e =
    let t = if_some (is_word token) (Some token) n e in
    let same : token ≡ n = same_Some token n t.1 in
    (same, subst (λ (x : List ℕ). is_word x ≡ true) same t.0)

named : (ts : List Token) (x : List ℕ × List Token) → front name ts ≡ Some x → (ts ≡ x.0 ∷ x.1) × FitsName x.0
named ts x e =
    let f = front_takes name ts x e in
    let n = name_takes f.0 x.0 f.2 in
    (f.1 ∙ ap (λ (y : Token). y ∷ x.1) n.0, n.1)

says_read : (numbers : Numbers) (token : Token) (v : Value) → value_in numbers token ≡ Some v → Says numbers token v
unfolding value_in
says_read modes.InRange token v e =
    let t = bind_some (value token) (kept_value in_range) v e in
    let u = if_some (value_in_range t.0) (Some t.0) v t.2 in
    subst (λ (x : Value). SaysValue token x × (value_in_range x ≡ true)) (same_Some t.0 v u.1) (value_takes token t.0 t.1, u.0)
says_read modes.AnyWidth token v e =
    let t = bind_some (value token) (kept_value any_width) v e in
    (t.0, value_takes token t.0 t.1, sym (same_Some (nearest_value t.0) v t.2))

number_read : (numbers : Numbers) (least greatest : ℕ) (token : Token) (m : ℕ) → (number token >>= kept numbers least greatest) ≡ Some m → SaysNumber numbers least greatest token m
number_read modes.InRange least greatest token m e =
    let t = bind_some (number token) (kept in_range least greatest) m e in
    let u = if_some (nat_le least t.0 && nat_le t.0 greatest) (Some t.0) m t.2 in
    let w = both (nat_le least t.0) (nat_le t.0 greatest) u.0 in
    subst (λ (x : ℕ). (number token ≡ Some x) × (least ≤ x) × (x ≤ greatest)) (same_Some t.0 m u.1) (t.1, leb-true least t.0 w.0, leb-true t.0 greatest w.1)
number_read modes.AnyWidth least greatest token m e =
    let t = bind_some (number token) (kept any_width least greatest) m e in
    (t.0, t.1, sym (same_Some (min t.0 greatest) m t.2))

moment_read : (numbers : Numbers) (token : Token) (m : ℕ) → moment numbers token ≡ Some m → SaysNumber numbers 0 max_moment token m
unfolding moment
moment_read numbers token m e = number_read numbers 0 max_moment token m e

kappa_read : (numbers : Numbers) (token : Token) (m : ℕ) → kappa numbers token ≡ Some m → SaysNumber numbers 1 1024 token m
unfolding kappa
kappa_read numbers token m e = number_read numbers 1 1024 token m e

era_read : (numbers : Numbers) (token : Token) (m : ℕ) → era numbers token ≡ Some m → SaysNumber numbers 0 max_era token m
unfolding era
era_read numbers token m e = number_read numbers 0 max_era token m e

only_takes : {A : Type 0} (read : Token → Option A) (ts : List Token) (a : A) → only read ts ≡ Some a → (token : Token) × (ts ≡ token ∷ []) × (read token ≡ Some a)
unfolding only
only_takes {A} read ts a e =
    let t = bind_some (front read ts) (λ x. ended x.1 >>= λ none. Some x.0) a e in
    let f = front_takes read ts t.0 t.1 in
    let u = bind_some (ended t.0.1) (λ none. Some t.0.0) a t.2 in
    (f.0, f.1 ∙ ap (λ (y : List Token). f.0 ∷ y) (ended_takes t.0.1 u.0 u.1), f.2 ∙ u.2)

word_takes : {A : Type 0} (text : List ℕ) (read : List Token → Option A) (ts : List Token) (a : A) → after_word text read ts ≡ Some a → (rest : List Token) × (ts ≡ text ∷ rest) × (read rest ≡ Some a)
unfolding after_word
word_takes text read [] a e = absurd cc
word_takes text read (token ∷ ts) a e =
    let t = if_some (bytes_eq token text) (read ts) a e in
    (ts, ap (λ (y : Token). y ∷ ts) (same_text token text t.0), t.1)

as_of_takes : (numbers : Numbers) (ts : List Token) (m : Option ℕ) → as_of numbers ts ≡ Some m → SayAsOf numbers ts m
unfolding as_of
as_of_takes numbers [] m e =
    let none : Option ℕ = None in
    subst (SayAsOf numbers []) (same_Some none m e) refl
as_of_takes numbers (token ∷ ts) m e =
    map_takes some_moment (after_word (codes "as") (after_word (codes "of") (only (moment numbers))) (token ∷ ts)) m (SayAsOf numbers (token ∷ ts)) (λ k h.
    let a = word_takes (codes "as") (after_word (codes "of") (only (moment numbers))) (token ∷ ts) k h in
    let b = word_takes (codes "of") (only (moment numbers)) a.0 k a.2 in
    let c = only_takes (moment numbers) b.0 k b.2 in
    (c.0, a.1 ∙ ap (λ (y : List Token). codes "as" ∷ y) (b.1 ∙ ap (λ (y : List Token). codes "of" ∷ y) c.1), moment_read numbers c.0 k c.2)) e

era_takes : (numbers : Numbers) (ts : List Token) (m : Option ℕ) → of_era numbers ts ≡ Some m → SayEra numbers ts m
unfolding of_era
era_takes numbers [] m e =
    let none : Option ℕ = None in
    subst (SayEra numbers []) (same_Some none m e) refl
era_takes numbers (token ∷ ts) m e =
    map_takes some_moment (after_word (codes "era") (only (era numbers)) (token ∷ ts)) m (SayEra numbers (token ∷ ts)) (λ k h.
    let a = word_takes (codes "era") (only (era numbers)) (token ∷ ts) k h in
    let b = only_takes (era numbers) a.0 k a.2 in
    (b.0, a.1 ∙ ap (λ (y : List Token). codes "era" ∷ y) b.1, era_read numbers b.0 k b.2)) e

behind_word_takes : (text : List ℕ) (ts rest : List Token) → behind_word text ts ≡ Some rest → ts ≡ text ∷ rest
unfolding behind_word
behind_word_takes text [] rest e = absurd cc
behind_word_takes text (token ∷ ts) rest e =
    let t = if_some (bytes_eq token text) (Some ts) rest e in
    ap (λ (y : Token). y ∷ ts) (same_text token text t.0) ∙ ap (λ (y : List Token). text ∷ y) (same_Some ts rest t.1)

abbrev AreNamed : List Token → (List ℕ × List ℕ) × List Token → Type 0
AreNamed ts x = (ts ≡ x.0.0 ∷ x.0.1 ∷ x.1) × FitsName x.0.0 × FitsName x.0.1

two_take : (ts : List Token) (x : (List ℕ × List ℕ) × List Token) → two_names ts ≡ Some x → AreNamed ts x
unfolding two_names
two_take ts x e =
    let t = bind_some (front name ts) (λ one. front name one.1 >>= λ two. Some ((one.0, two.0), two.1)) x e in
    let u = bind_some (front name t.0.1) (λ two. Some ((t.0.0, two.0), two.1)) x t.2 in
    let m = named ts t.0 t.1 in
    let n = named t.0.1 u.0 u.1 in
    let found : (List ℕ × List ℕ) × List Token = ((t.0.0, u.0.0), u.0.1) in
    subst (AreNamed ts) (same_Some found x u.2) (m.0 ∙ ap (λ (y : List Token). t.0.0 ∷ y) n.0, m.1, n.1)

-- a number at the front, which is spelled as it is printed
pub record Plain (least greatest : ℕ) (ts : List Token) (x : ℕ × List Token) : Type 0 where
  pub parts : ts ≡ decimal x.0 ∷ x.1
  pub low : least ≤ x.0
  pub high : x.0 ≤ greatest

pub plain_front : (least greatest : ℕ) (ts : List Token) (x : ℕ × List Token) → greatest < 2 ^ 64 → front (plain_number least greatest) ts ≡ Some x → Plain least greatest ts x
plain_front least greatest ts x small e =
    let f = front_takes (plain_number least greatest) ts x e in
    let p = plain_takes least greatest f.0 x.0 small f.2 in
    record {
      parts = f.1 ∙ ap (λ (y : Token). y ∷ x.1) p.0;
      low = p.1;
      high = p.2;
    }

-- a token, and what is behind it
pub onto : (ts rest more : List Token) (token : Token) → ts ≡ token ∷ rest → rest ≡ more → ts ≡ token ∷ more
onto ts rest more token a b = a ∙ ap (λ (y : List Token). token ∷ y) b

each_takes : (numbers : Numbers) (ts : List Token) (vs : List Value) → each (value_in numbers) ts ≡ Some vs → SayValues numbers ts vs
unfolding each
each_takes numbers [] vs e = let none : List Value = [] in subst (SayValues numbers []) (same_Some none vs e) tt
each_takes numbers (t ∷ ts) vs e =
    let a = bind_some (value_in numbers t) (λ v. each (value_in numbers) ts >>= λ others. Some (v ∷ others)) vs e in
    let b = bind_some (each (value_in numbers) ts) (λ others. Some (a.0 ∷ others)) vs a.2 in
    subst (SayValues numbers (t ∷ ts)) (same_Some (a.0 ∷ b.0) vs b.2) (says_read numbers t a.0 a.1, each_takes numbers ts b.0 b.1)

row_takes : (numbers : Numbers) (ts : List Token) (vs : List Value) → row numbers ts ≡ Some vs → SayValues numbers ts vs × (is_row vs ≡ true)
unfolding row
row_takes numbers ts vs e =
    let w = where_some is_row (each (value_in numbers) ts) vs e in
    (each_takes numbers ts vs w.0, w.1)

algorithm_word_takes : (numbers : Numbers) (token : Token) (k : LineAlgorithm) (others : List Token) → algorithm_word token ≡ Some k → SayAlgorithm numbers (token ∷ others) k others
unfolding algorithm_word
algorithm_word_takes numbers token k others e =
    let P : LineAlgorithm → Type 0 = λ x. SayAlgorithm numbers (token ∷ others) x others in
    let here : (text : List ℕ) → bytes_eq token text ≡ true → token ∷ others ≡ text ∷ others = λ text h. ap (λ (y : Token). y ∷ others) (same_text token text h) in
    says_if (bytes_eq token (codes "mono")) algorithms.Mono k _ P (here (codes "mono"))
    (says_if (bytes_eq token (codes "tiled")) algorithms.Tiled k _ P (here (codes "tiled"))
    (says_if (bytes_eq token (codes "a3d")) algorithms.A3d k _ P (here (codes "a3d")) (λ f. absurd cc)))
    e

column_takes : (token other : Token) (c : Column) → column token other ≡ Some c → (token ≡ c.name) × (other ≡ kind_token c.kind) × FitsName c.name
unfolding column
column_takes token other c e =
    let a = bind_some (name token) (λ n. kind other >>= λ k. Some (column_of n k)) c e in
    let b = bind_some (kind other) (λ k. Some (column_of a.0 k)) c a.2 in
    let n = name_takes token a.0 a.1 in
    subst (λ (x : Column). (token ≡ x.name) × (other ≡ kind_token x.kind) × FitsName x.name) (same_Some (column_of a.0 b.0) c b.2) (n.0, kind_takes other b.0 b.1, n.1)

columns_each_takes : (ts : List Token) (cs : List Column) → each_column ts ≡ Some cs → SayColumns ts cs
unfolding each_column
columns_each_takes [] cs e = let none : List Column = [] in subst (SayColumns []) (same_Some none cs e) refl
columns_each_takes (t ∷ []) cs e = absurd cc
columns_each_takes (t ∷ u ∷ ts) cs e =
    let a = bind_some (column t u) (λ c. each_column ts >>= λ others. Some (c ∷ others)) cs e in
    let b = bind_some (each_column ts) (λ others. Some (a.0 ∷ others)) cs a.2 in
    let c = column_takes t u a.0 a.1 in
    subst (SayColumns (t ∷ u ∷ ts)) (same_Some (a.0 ∷ b.0) cs b.2) (ts, ap (λ (y : Token). y ∷ u ∷ ts) c.0 ∙ ap (λ (y : Token). a.0.name ∷ y ∷ ts) c.1, c.2, columns_each_takes ts b.0 b.1)

columns_takes : (ts : List Token) (cs : List Column) → columns ts ≡ Some cs → SayColumns ts cs × (are_columns cs ≡ true)
unfolding columns
columns_takes ts cs e =
    let w = where_some are_columns (each_column ts) cs e in
    (columns_each_takes ts cs w.0, w.1)

-- ---- statements

abbrev IsSaid : Numbers → Keyword → List Token → Stmt → Type 0
IsSaid numbers k ts s = (k ≡ stmt_keyword s) × SayStmt numbers ts s

create_takes : (numbers : Numbers) (ts : List Token) (s : Stmt) → create ts ≡ Some s → IsSaid numbers words.Create ts s
unfolding create
create_takes numbers ts s e =
    let t = bind_some (front name ts) (λ table. columns table.1 >>= λ cs. Some (stmts.Create table.0 cs)) s e in
    let u = bind_some (columns t.0.1) (λ cs. Some (stmts.Create t.0.0 cs)) s t.2 in
    let n = named ts t.0 t.1 in
    let c = columns_takes t.0.1 u.0 u.1 in
    subst (IsSaid numbers words.Create ts) (same_Some (stmts.Create t.0.0 u.0) s u.2) (refl, (t.0.1, n.0, n.1, c.0, c.1))

insert_takes : (numbers : Numbers) (ts : List Token) (s : Stmt) → insert numbers ts ≡ Some s → IsSaid numbers words.Insert ts s
unfolding insert
insert_takes numbers ts s e =
    let t = bind_some (front name ts) (λ table. row numbers table.1 >>= λ vs. Some (stmts.Insert table.0 vs)) s e in
    let u = bind_some (row numbers t.0.1) (λ vs. Some (stmts.Insert t.0.0 vs)) s t.2 in
    let n = named ts t.0 t.1 in
    let c = row_takes numbers t.0.1 u.0 u.1 in
    subst (IsSaid numbers words.Insert ts) (same_Some (stmts.Insert t.0.0 u.0) s u.2) (refl, (t.0.1, n.0, n.1, c.0, c.1))

update_takes : (numbers : Numbers) (ts : List Token) (s : Stmt) → update numbers ts ≡ Some s → IsSaid numbers words.Update ts s
unfolding update
update_takes numbers ts s e =
    let t = bind_some (front name ts) (λ table. row numbers table.1 >>= λ vs. Some (stmts.Update table.0 vs)) s e in
    let u = bind_some (row numbers t.0.1) (λ vs. Some (stmts.Update t.0.0 vs)) s t.2 in
    let n = named ts t.0 t.1 in
    let c = row_takes numbers t.0.1 u.0 u.1 in
    subst (IsSaid numbers words.Update ts) (same_Some (stmts.Update t.0.0 u.0) s u.2) (refl, (t.0.1, n.0, n.1, c.0, c.1))

-- a name, a token and what is behind it
behind : (ts rest more : List Token) (n : List ℕ) (token : Token) → ts ≡ n ∷ rest → rest ≡ token ∷ more → ts ≡ n ∷ token ∷ more
behind ts rest more n token a b = a ∙ ap (λ (y : List Token). n ∷ y) b

delete_takes : (numbers : Numbers) (ts : List Token) (s : Stmt) → delete numbers ts ≡ Some s → IsSaid numbers words.Delete ts s
unfolding delete
delete_takes numbers ts s e =
    let t = bind_some (front name ts) (λ table. front (value_in numbers) table.1 >>= λ key. ended key.1 >>= λ none. Some (stmts.Delete table.0 key.0)) s e in
    let u = bind_some (front (value_in numbers) t.0.1) (λ key. ended key.1 >>= λ none. Some (stmts.Delete t.0.0 key.0)) s t.2 in
    let w = bind_some (ended u.0.1) (λ none. Some (stmts.Delete t.0.0 u.0.0)) s u.2 in
    let n = named ts t.0 t.1 in
    let f = front_takes (value_in numbers) t.0.1 u.0 u.1 in
    let parts : ts ≡ t.0.0 ∷ f.0 ∷ [] = behind ts t.0.1 [] t.0.0 f.0 n.0 (f.1 ∙ ap (λ (y : List Token). f.0 ∷ y) (ended_takes u.0.1 w.0 w.1)) in
    subst (IsSaid numbers words.Delete ts) (same_Some (stmts.Delete t.0.0 u.0.0) s w.2) (refl, (f.0, parts, n.1, says_read numbers f.0 u.0.0 f.2))

history_takes : (numbers : Numbers) (ts : List Token) (s : Stmt) → history numbers ts ≡ Some s → IsSaid numbers words.History ts s
unfolding history
history_takes numbers ts s e =
    let t = bind_some (front name ts) (λ table. front (value_in numbers) table.1 >>= λ key. ended key.1 >>= λ none. Some (stmts.History table.0 key.0)) s e in
    let u = bind_some (front (value_in numbers) t.0.1) (λ key. ended key.1 >>= λ none. Some (stmts.History t.0.0 key.0)) s t.2 in
    let w = bind_some (ended u.0.1) (λ none. Some (stmts.History t.0.0 u.0.0)) s u.2 in
    let n = named ts t.0 t.1 in
    let f = front_takes (value_in numbers) t.0.1 u.0 u.1 in
    let parts : ts ≡ t.0.0 ∷ f.0 ∷ [] = behind ts t.0.1 [] t.0.0 f.0 n.0 (f.1 ∙ ap (λ (y : List Token). f.0 ∷ y) (ended_takes u.0.1 w.0 w.1)) in
    subst (IsSaid numbers words.History ts) (same_Some (stmts.History t.0.0 u.0.0) s w.2) (refl, (f.0, parts, n.1, says_read numbers f.0 u.0.0 f.2))

get_takes : (numbers : Numbers) (ts : List Token) (s : Stmt) → get numbers ts ≡ Some s → IsSaid numbers words.Get ts s
unfolding get
get_takes numbers ts s e =
    let t = bind_some (front name ts) (λ table. front (value_in numbers) table.1 >>= λ key. as_of numbers key.1 >>= λ at. Some (stmts.Get table.0 key.0 at)) s e in
    let u = bind_some (front (value_in numbers) t.0.1) (λ key. as_of numbers key.1 >>= λ at. Some (stmts.Get t.0.0 key.0 at)) s t.2 in
    let w = bind_some (as_of numbers u.0.1) (λ at. Some (stmts.Get t.0.0 u.0.0 at)) s u.2 in
    let n = named ts t.0 t.1 in
    let f = front_takes (value_in numbers) t.0.1 u.0 u.1 in
    subst (IsSaid numbers words.Get ts) (same_Some (stmts.Get t.0.0 u.0.0 w.0) s w.2) (refl, (f.0, u.0.1, behind ts t.0.1 u.0.1 t.0.0 f.0 n.0 f.1, n.1, says_read numbers f.0 u.0.0 f.2, as_of_takes numbers u.0.1 w.0 w.1))

filter_takes : (numbers : Numbers) (ts : List Token) (x : Filter × List Token) → filter_at numbers ts ≡ Some x → SayFilter numbers ts (Some x.0) x.1
unfolding filter_at
filter_takes numbers ts x e =
    let t = bind_some (front name ts) (λ column. front compare column.1 >>= λ sign. front (value_in numbers) sign.1 >>= λ bound. Some (filter_of column.0 sign.0 bound.0, bound.1)) x e in
    let u = bind_some (front compare t.0.1) (λ sign. front (value_in numbers) sign.1 >>= λ bound. Some (filter_of t.0.0 sign.0 bound.0, bound.1)) x t.2 in
    let w = bind_some (front (value_in numbers) u.0.1) (λ bound. Some (filter_of t.0.0 u.0.0 bound.0, bound.1)) x u.2 in
    let n = named ts t.0 t.1 in
    let f = front_takes compare t.0.1 u.0 u.1 in
    let g = front_takes (value_in numbers) u.0.1 w.0 w.1 in
    let sign : f.0 ≡ compare_token u.0.0 = compare_takes f.0 u.0.0 f.2 in
    let middle : t.0.1 ≡ compare_token u.0.0 ∷ g.0 ∷ w.0.1 = f.1 ∙ ap (λ (y : Token). y ∷ u.0.1) sign ∙ ap (λ (y : List Token). compare_token u.0.0 ∷ y) g.1 in
    let found : Filter × List Token = (filter_of t.0.0 u.0.0 w.0.0, w.0.1) in
    subst (λ (y : Filter × List Token). SayFilter numbers ts (Some y.0) y.1) (same_Some found x w.2) (g.0, n.0 ∙ ap (λ (y : List Token). t.0.0 ∷ y) middle, n.1, says_read numbers g.0 w.0.0 g.2)

scan_takes : (numbers : Numbers) (ts : List Token) (s : Stmt) → scan numbers ts ≡ Some s → IsSaid numbers words.Scan ts s
unfolding scan unfiltered filtered
scan_takes numbers ts s e =
    let t = bind_some (front name ts) (λ table. or_else (unfiltered numbers table.0 table.1) (filtered numbers table.0 table.1)) s e in
    let n = named ts t.0 t.1 in
    or_takes (unfiltered numbers t.0.0 t.0.1) (filtered numbers t.0.0 t.0.1) s (IsSaid numbers words.Scan ts s)
    (λ h.
    let w = bind_some (as_of numbers t.0.1) (λ at. Some (stmts.Scan t.0.0 None at)) s h in
    subst (IsSaid numbers words.Scan ts) (same_Some (stmts.Scan t.0.0 None w.0) s w.2) (refl, (t.0.1, t.0.1, n.0, n.1, refl, as_of_takes numbers t.0.1 w.0 w.1)))
    (λ h.
    let u = bind_some (filter_at numbers t.0.1) (λ filter. as_of numbers filter.1 >>= λ at. Some (stmts.Scan t.0.0 (Some filter.0) at)) s h in
    let w = bind_some (as_of numbers u.0.1) (λ at. Some (stmts.Scan t.0.0 (Some u.0.0) at)) s u.2 in
    subst (IsSaid numbers words.Scan ts) (same_Some (stmts.Scan t.0.0 (Some u.0.0) w.0) s w.2) (refl, (t.0.1, u.0.1, n.0, n.1, filter_takes numbers t.0.1 u.0 u.1, as_of_takes numbers u.0.1 w.0 w.1)))
    t.2

only_filter_takes : (numbers : Numbers) (ts : List Token) (f : Option Filter) → only_filter numbers ts ≡ Some f → SayFilter numbers ts f []
unfolding only_filter
only_filter_takes numbers [] f e =
    let none : Option Filter = None in
    subst (λ (y : Option Filter). SayFilter numbers [] y []) (same_Some none f e) refl
only_filter_takes numbers (token ∷ ts) f e =
    let t = bind_some (filter_at numbers (token ∷ ts)) (λ filter. ended filter.1 >>= λ none. Some (Some filter.0)) f e in
    let u = bind_some (ended t.0.1) (λ none. Some (Some t.0.0)) f t.2 in
    let some : Option Filter = Some t.0.0 in
    let says = filter_takes numbers (token ∷ ts) t.0 t.1 in
    subst (λ (y : Option Filter). SayFilter numbers (token ∷ ts) y []) (same_Some some f u.2)
    (subst (λ (ys : List Token). SayFilter numbers (token ∷ ts) some ys) (ended_takes t.0.1 u.0 u.1) says)

-- two moments with `to` between them, and what is behind them
abbrev IsSpan : Numbers → List Token → ℕ × ℕ → List Token → Type 0
IsSpan numbers ts moments rest =
    (a : Token) × (b : Token) × (ts ≡ a ∷ codes "to" ∷ b ∷ rest)
    × SaysNumber numbers 0 max_moment a moments.0 × SaysNumber numbers 0 max_moment b moments.1

span_takes : (numbers : Numbers) (ts : List Token) (x : (ℕ × ℕ) × List Token) → span numbers ts ≡ Some x → IsSpan numbers ts x.0 x.1
unfolding span
span_takes numbers ts x e =
    let t = bind_some (front (moment numbers) ts) (λ from. behind_word (codes "to") from.1 >>= λ rest. front (moment numbers) rest >>= λ to. Some ((from.0, to.0), to.1)) x e in
    let u = bind_some (behind_word (codes "to") t.0.1) (λ rest. front (moment numbers) rest >>= λ to. Some ((t.0.0, to.0), to.1)) x t.2 in
    let w = bind_some (front (moment numbers) u.0) (λ to. Some ((t.0.0, to.0), to.1)) x u.2 in
    let f = front_takes (moment numbers) ts t.0 t.1 in
    let g = front_takes (moment numbers) u.0 w.0 w.1 in
    let word = behind_word_takes (codes "to") t.0.1 u.0 u.1 in
    let parts : ts ≡ f.0 ∷ codes "to" ∷ g.0 ∷ w.0.1 = f.1 ∙ ap (λ (y : List Token). f.0 ∷ y) (word ∙ ap (λ (y : List Token). codes "to" ∷ y) g.1) in
    let found : (ℕ × ℕ) × List Token = ((t.0.0, w.0.0), w.0.1) in
    subst (λ (y : (ℕ × ℕ) × List Token). IsSpan numbers ts y.0 y.1) (same_Some found x w.2) (f.0, g.0, parts, moment_read numbers f.0 t.0.0 f.2, moment_read numbers g.0 w.0.0 g.2)

over_select_takes : (numbers : Numbers) (ts : List Token) (moments : ℕ × ℕ) (token : Token) (rest : List Token) (s : Stmt) → IsSpan numbers ts moments (token ∷ rest) → token ≡ codes "select" → over_select numbers moments rest ≡ Some s → IsSaid numbers words.Over ts s
unfolding over_select
over_select_takes numbers ts moments token rest s h word e =
    let t = bind_some (front name rest) (λ table. only_filter numbers table.1 >>= λ filter. Some (stmts.OverSelect moments.0 moments.1 table.0 filter)) s e in
    let u = bind_some (only_filter numbers t.0.1) (λ filter. Some (stmts.OverSelect moments.0 moments.1 t.0.0 filter)) s t.2 in
    let n = named rest t.0 t.1 in
    let parts : ts ≡ h.0 ∷ codes "to" ∷ h.1 ∷ codes "select" ∷ t.0.0 ∷ t.0.1 =
    h.2 ∙ ap (λ (y : Token). h.0 ∷ codes "to" ∷ h.1 ∷ y ∷ rest) word ∙ ap (λ (y : List Token). h.0 ∷ codes "to" ∷ h.1 ∷ codes "select" ∷ y) n.0
    in
    subst (IsSaid numbers words.Over ts) (same_Some (stmts.OverSelect moments.0 moments.1 t.0.0 u.0) s u.2) (refl, (h.0, h.1, t.0.1, parts, h.3, h.4, n.1, only_filter_takes numbers t.0.1 u.0 u.1))

over_join_takes : (numbers : Numbers) (ts : List Token) (moments : ℕ × ℕ) (token : Token) (rest : List Token) (s : Stmt) → IsSpan numbers ts moments (token ∷ rest) → token ≡ codes "join" → over_join moments rest ≡ Some s → IsSaid numbers words.Over ts s
unfolding over_join
over_join_takes numbers ts moments token rest s h word e =
    let t = bind_some (two_names rest) (λ tables. behind_word (codes "on") tables.1 >>= λ more. two_names more >>= λ columns. ended columns.1 >>= λ none. Some (stmts.OverJoin moments.0 moments.1 tables.0.0 tables.0.1 columns.0.0 columns.0.1)) s e in
    let u = bind_some (behind_word (codes "on") t.0.1) (λ more. two_names more >>= λ columns. ended columns.1 >>= λ none. Some (stmts.OverJoin moments.0 moments.1 t.0.0.0 t.0.0.1 columns.0.0 columns.0.1)) s t.2 in
    let v = bind_some (two_names u.0) (λ columns. ended columns.1 >>= λ none. Some (stmts.OverJoin moments.0 moments.1 t.0.0.0 t.0.0.1 columns.0.0 columns.0.1)) s u.2 in
    let w = bind_some (ended v.0.1) (λ none. Some (stmts.OverJoin moments.0 moments.1 t.0.0.0 t.0.0.1 v.0.0.0 v.0.0.1)) s v.2 in
    let m = two_take rest t.0 t.1 in
    let n = two_take u.0 v.0 v.1 in
    let columns : u.0 ≡ v.0.0.0 ∷ v.0.0.1 ∷ [] = n.0 ∙ ap (λ (y : List Token). v.0.0.0 ∷ v.0.0.1 ∷ y) (ended_takes v.0.1 w.0 w.1) in
    let behind_on : t.0.1 ≡ codes "on" ∷ v.0.0.0 ∷ v.0.0.1 ∷ [] = behind_word_takes (codes "on") t.0.1 u.0 u.1 ∙ ap (λ (y : List Token). codes "on" ∷ y) columns in
    let tables : rest ≡ t.0.0.0 ∷ t.0.0.1 ∷ codes "on" ∷ v.0.0.0 ∷ v.0.0.1 ∷ [] = m.0 ∙ ap (λ (y : List Token). t.0.0.0 ∷ t.0.0.1 ∷ y) behind_on in
    let parts : ts ≡ h.0 ∷ codes "to" ∷ h.1 ∷ codes "join" ∷ t.0.0.0 ∷ t.0.0.1 ∷ codes "on" ∷ v.0.0.0 ∷ v.0.0.1 ∷ [] =
    h.2 ∙ ap (λ (y : Token). h.0 ∷ codes "to" ∷ h.1 ∷ y ∷ rest) word ∙ ap (λ (y : List Token). h.0 ∷ codes "to" ∷ h.1 ∷ codes "join" ∷ y) tables
    in
    subst (IsSaid numbers words.Over ts) (same_Some (stmts.OverJoin moments.0 moments.1 t.0.0.0 t.0.0.1 v.0.0.0 v.0.0.1) s w.2) (refl, (h.0, h.1, parts, h.3, h.4, m.1, m.2, n.1, n.2))

over_by_takes : (numbers : Numbers) (ts : List Token) (moments : ℕ × ℕ) (rest : List Token) (s : Stmt) → IsSpan numbers ts moments rest → over_by numbers moments rest ≡ Some s → IsSaid numbers words.Over ts s
unfolding over_by
over_by_takes numbers ts moments [] s h e = absurd cc
over_by_takes numbers ts moments (token ∷ rest) s h e = by (bytes_eq token (codes "select")) (bytes_eq token (codes "join")) refl refl e
  where
    by : (a b : Bool) → bytes_eq token (codes "select") ≡ a → bytes_eq token (codes "join") ≡ b → cond a (over_select numbers moments rest) (cond b (over_join moments rest) None) ≡ Some s → IsSaid numbers words.Over ts s
    by true b is other f = over_select_takes numbers ts moments token rest s h (same_text token (codes "select") is) f
    by false true other is f = over_join_takes numbers ts moments token rest s h (same_text token (codes "join") is) f
    by false false other none f = absurd cc

over_takes : (numbers : Numbers) (ts : List Token) (s : Stmt) → over numbers ts ≡ Some s → IsSaid numbers words.Over ts s
unfolding over
over_takes numbers ts s e =
    let t = bind_some (span numbers ts) (λ moments. over_by numbers moments.0 moments.1) s e in
    over_by_takes numbers ts t.0.0 t.0.1 s (span_takes numbers ts t.0 t.1) t.2

alone_takes : (numbers : Numbers) (k : Keyword) (stmt : Stmt) (ts : List Token) (s : Stmt) → k ≡ stmt_keyword stmt → (ts ≡ [] → SayStmt numbers ts stmt) → alone stmt ts ≡ Some s → IsSaid numbers k ts s
unfolding alone
alone_takes numbers k stmt ts s same says e =
    let t = bind_some (ended ts) (λ none. Some stmt) s e in
    subst (IsSaid numbers k ts) (same_Some stmt s t.2) (same, says (ended_takes ts t.0 t.1))

policy_takes : (numbers : Numbers) (ts : List Token) (s : Stmt) → policy ts ≡ Some s → IsSaid numbers words.Policy ts s
unfolding policy
policy_takes numbers ts s e =
    let a = bind_some (front (plain_number 0 10) ts) (λ k. front algs k.1 >>= λ chains. ended chains.1 >>= λ none. Some (stmts.Policy k.0 chains.0)) s e in
    let b = bind_some (front algs a.0.1) (λ chains. ended chains.1 >>= λ none. Some (stmts.Policy a.0.0 chains.0)) s a.2 in
    let c = bind_some (ended b.0.1) (λ none. Some (stmts.Policy a.0.0 b.0.0)) s b.2 in
    let p = plain_front 0 10 ts a.0 (omega arith) a.1 in
    let g = front_takes algs a.0.1 b.0 b.1 in
    let w = algs_takes g.0 b.0.0 g.2 in
    let last : a.0.1 ≡ algs_token b.0.0 ∷ [] = onto a.0.1 b.0.1 [] (algs_token b.0.0) (g.1 ∙ ap (λ (y : Token). y ∷ b.0.1) w.0) (ended_takes b.0.1 c.0 c.1) in
    let whole : ts ≡ decimal a.0.0 ∷ algs_token b.0.0 ∷ [] = onto ts a.0.1 (algs_token b.0.0 ∷ []) (decimal a.0.0) p.parts last in
    subst (IsSaid numbers words.Policy ts) (same_Some (stmts.Policy a.0.0 b.0.0) s c.2) (refl, (whole, p.high, w.1))

in_era_takes : (numbers : Numbers) (a : LineAlgorithm) (ts others : List Token) (s : Stmt) → SayAlgorithm numbers ts a others → ((e : Option ℕ) → may_name_era a e ≡ true) → in_era numbers a others ≡ Some s → IsSaid numbers words.Analyse ts s
unfolding in_era
in_era_takes numbers a ts others s says may e =
    let t = bind_some (of_era numbers others) (λ k. Some (stmts.Analyse a k)) s e in
    subst (IsSaid numbers words.Analyse ts) (same_Some (stmts.Analyse a t.0) s t.2) (refl, (others, says, era_takes numbers others t.0 t.1, may t.0))

exactly_takes : (numbers : Numbers) (ts others : List Token) (s : Stmt) → ts ≡ codes "tiled" ∷ others → exactly numbers others ≡ Some s → IsSaid numbers words.Analyse ts s
unfolding exactly
exactly_takes numbers ts others s parts e =
    let t = bind_some (front (kappa numbers) others) (λ n. in_era numbers (algorithms.TiledExactly n.0) n.1) s e in
    let f = front_takes (kappa numbers) others t.0 t.1 in
    in_era_takes numbers (algorithms.TiledExactly t.0.0) ts t.0.1 s
    (f.0, parts ∙ ap (λ (y : List Token). codes "tiled" ∷ y) f.1, kappa_read numbers f.0 t.0.0 f.2) (λ k. refl) t.2

analyse_by_takes : (numbers : Numbers) (a : LineAlgorithm) (ts others : List Token) (s : Stmt) → SayAlgorithm numbers ts a others → analyse_by numbers a others ≡ Some s → IsSaid numbers words.Analyse ts s
unfolding analyse_by alone
analyse_by_takes numbers algorithms.Mono ts others s says e =
    let t = bind_some (ended others) (λ none. Some (stmts.Analyse algorithms.Mono None)) s e in
    subst (IsSaid numbers words.Analyse ts) (same_Some (stmts.Analyse algorithms.Mono None) s t.2) (refl, (others, says, ended_takes others t.0 t.1, refl))
analyse_by_takes numbers algorithms.Tiled ts others s says e =
    or_takes (in_era numbers algorithms.Tiled others) (exactly numbers others) s (IsSaid numbers words.Analyse ts s)
    (in_era_takes numbers algorithms.Tiled ts others s says (λ k. refl))
    (exactly_takes numbers ts others s says)
    e
analyse_by_takes numbers (algorithms.TiledExactly n) ts others s says e = absurd cc
analyse_by_takes numbers algorithms.A3d ts others s says e = in_era_takes numbers algorithms.A3d ts others s says (λ k. refl) e

analyse_takes : (numbers : Numbers) (ts : List Token) (s : Stmt) → analyse numbers ts ≡ Some s → IsSaid numbers words.Analyse ts s
unfolding analyse
analyse_takes numbers ts s e =
    let t = bind_some (front algorithm_word ts) (λ word. analyse_by numbers word.0 word.1) s e in
    let f = front_takes algorithm_word ts t.0 t.1 in
    let says : SayAlgorithm numbers ts t.0.0 t.0.1 = subst (λ (y : List Token). SayAlgorithm numbers y t.0.0 t.0.1) (sym f.1) (algorithm_word_takes numbers f.0 t.0.0 t.0.1 f.2) in
    analyse_by_takes numbers t.0.0 ts t.0.1 s says t.2

now_takes : (numbers : Numbers) (ts : List Token) (s : Stmt) → option_map stmts.Now (only (moment numbers) ts) ≡ Some s → IsSaid numbers words.Now ts s
now_takes numbers ts s e = map_takes stmts.Now (only (moment numbers) ts) s (IsSaid numbers words.Now ts) (λ m h. let o = only_takes (moment numbers) ts m h in (refl, (o.0, o.1, moment_read numbers o.0 m o.2))) e

pub stmt_takes : (numbers : Numbers) (k : Keyword) (ts : List Token) (s : Stmt) → stmt_by numbers k ts ≡ Some s → (k ≡ stmt_keyword s) × SayStmt numbers ts s
unfolding stmt_by
stmt_takes numbers words.Create ts s e = create_takes numbers ts s e
stmt_takes numbers words.Insert ts s e = insert_takes numbers ts s e
stmt_takes numbers words.Update ts s e = update_takes numbers ts s e
stmt_takes numbers words.Delete ts s e = delete_takes numbers ts s e
stmt_takes numbers words.Get ts s e = get_takes numbers ts s e
stmt_takes numbers words.Scan ts s e = scan_takes numbers ts s e
stmt_takes numbers words.History ts s e = history_takes numbers ts s e
stmt_takes numbers words.Over ts s e = over_takes numbers ts s e
stmt_takes numbers words.Begin ts s e = alone_takes numbers words.Begin stmts.Begin ts s refl (λ h. h) e
stmt_takes numbers words.Commit ts s e = alone_takes numbers words.Commit stmts.Commit ts s refl (λ h. h) e
stmt_takes numbers words.Abort ts s e = alone_takes numbers words.Abort stmts.Abort ts s refl (λ h. h) e
stmt_takes numbers words.Notarize ts s e = alone_takes numbers words.Notarize stmts.Notarize ts s refl (λ h. h) e
stmt_takes numbers words.Validate ts s e = alone_takes numbers words.Validate stmts.Validate ts s refl (λ h. h) e
stmt_takes numbers words.Audit ts s e = alone_takes numbers words.Audit stmts.Audit ts s refl (λ h. h) e
stmt_takes numbers words.Policy ts s e = policy_takes numbers ts s e
stmt_takes numbers words.Analyse ts s e = analyse_takes numbers ts s e
stmt_takes numbers words.Now ts s e = now_takes numbers ts s e
stmt_takes numbers words.Init ts s e = absurd cc
stmt_takes numbers words.Crash ts s e = absurd cc
stmt_takes numbers words.Alter ts s e = absurd cc
stmt_takes numbers words.Cut ts s e = absurd cc

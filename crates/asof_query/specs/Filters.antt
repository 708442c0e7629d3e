-- Which rows a filter lets through, and what a scan and a history answer.
use Rattle.std.specs.Prelude.{ℕ, ◌+◌, Bool, true, false, not, if◌then◌else◌, Option, Some, None, Result, Ok, Err, List, [], ◌∷◌, filter, slice_get}
use Rattle.std.specs.Option.{option_map_or}
use Rattle.std.specs.Ordering.{is_eq, is_lt, is_gt, is_le, is_ge}
use Rattle.std.specs.declared.cmp.Ordering.{Ordering}
use Rattle.tuple_bytes.specs.Order.{value_cmp}
use Rattle.tuple_bytes.specs.declared.value.Value.{Value}
use Rattle.tuple_bytes.specs.declared.op.Column.{Column}
use Rattle.tuple_bytes.specs.declared.filter.Compare.{Compare}
use Rattle.tuple_bytes.specs.declared.filter.Compare.TheVariants.{Equal, NotEqual, Less, LessOrEqual, Greater, GreaterOrEqual}
use Rattle.tuple_bytes.specs.declared.filter.Filter.{Filter}
use Rattle.history_model.specs.declared.change.TableFail.{TableFail}
use Rattle.history_model.specs.declared.change.TableFail.TheVariants.{NoTable, NoColumn, BadType}
use Rattle.history_model.specs.Values.{is_fit, same_name}
use Rattle.history_model.specs.State.{Table, State, table_of}
use Rattle.history_model.specs.Answers.{unless_fault, key_fault}
use Rattle.tt_table.specs.declared.version.Version.{Version}
use Rattle.tt_table.specs.Tables.{TableVersions, key_in}

-- whether a value that stands so to the filter's value passes; Null comes before all
abbrev pub is_passing : Compare → Ordering → Bool
is_passing Equal o = is_eq o
is_passing NotEqual o = not (is_eq o)
is_passing Less o = is_lt o
is_passing LessOrEqual o = is_le o
is_passing Greater o = is_gt o
is_passing GreaterOrEqual o = is_ge o

-- the place of the filter's column, the first of these columns having place n; columns are counted from 1 in a refusal
abbrev pub filter_place_from : ℕ → List Column → Filter → Result ℕ TableFail
filter_place_from n [] f = Err NoColumn
filter_place_from n (c ∷ cs) f = if same_name f.column c.name then (if is_fit c.kind f.value then Ok n else Err (BadType (n + 1))) else filter_place_from (n + 1) cs f

-- without a filter any place serves
abbrev pub filter_place : List Column → Option Filter → Result ℕ TableFail
filter_place columns None = Ok 0
filter_place columns (Some f) = filter_place_from 0 columns f

-- whether a row passes, by its value at the place
abbrev pub passes : ℕ → Option Filter → List Value → Bool
passes place None row = true
passes place (Some f) row = option_map_or (λ v. is_passing f.compare (value_cmp v f.value)) (slice_get row place) false

-- the rows that pass, in their order
abbrev pub chosen : ℕ → Option Filter → List (List Value) → List (List Value)
chosen place f rows = filter (passes place f) rows

abbrev pub passing_at : Option Filter → List (List Value) → Result ℕ TableFail → Result (List (List Value)) TableFail
passing_at f rows (Err fail) = Err fail
passing_at f rows (Ok place) = Ok (chosen place f rows)

abbrev pub passing : List Column → Option Filter → List (List Value) → Result (List (List Value)) TableFail
passing columns f rows = passing_at f rows (filter_place columns f)

-- the rows of a table that pass, in the order of their keys
abbrev pub rows_of : Option Filter → Option Table → Result (List (List Value)) TableFail
rows_of f None = Err NoTable
rows_of f (Some t) = passing t.columns f t.rows

abbrev pub scan_of : State → List ℕ → Option Filter → Result (List (List Value)) TableFail
scan_of s name f = rows_of f (table_of name s)

-- the versions of a key
abbrev pub history_in : Value → Option TableVersions → Result (List Version) TableFail
history_in key None = Err NoTable
history_in key (Some t) = unless_fault (key_fault t.columns key) (Ok (option_map_or (λ k. k.versions) (key_in key t) []))

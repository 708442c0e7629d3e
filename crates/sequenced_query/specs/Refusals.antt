-- Why a query over a span is refused, by its first cause.
use Rattle.std.specs.Prelude.{ℕ, ◌+◌, nat_lt, Bool, true, false, if◌then◌else◌, Option, Some, None, Result, Ok, Err, List}
use Rattle.std.specs.Result.{result_err}
use Rattle.tuple_bytes.specs.declared.op.Column.{Column}
use Rattle.tuple_bytes.specs.declared.op.Kind.{Kind}
use Rattle.tuple_bytes.specs.declared.op.Kind.TheVariants as kinds
use Rattle.tuple_bytes.specs.declared.filter.Filter.{Filter}
use Rattle.history_model.specs.declared.change.TableFail.{TableFail}
use Rattle.history_model.specs.declared.change.TableFail.TheVariants as table
use Rattle.asof_query.specs.Filters.{filter_place}
use Rattle.sequenced_query.specs.declared.join.Places.{Places}
use Rattle.sequenced_query.specs.declared.error.OverFail.{OverFail}
use Rattle.sequenced_query.specs.declared.error.OverFail.TheVariants.{NoSpan, NoTable, NoColumn, BadType}
use Rattle.sequenced_query.specs.Plain.{column_named}

-- the same refusal of a filter; those that a filter never has are taken for NoColumn
abbrev pub of_filter : TableFail → OverFail
of_filter (table.BadType column) = BadType column
of_filter fail = NoColumn

abbrev pub filter_fault : Result ℕ TableFail → Option OverFail
filter_fault (Ok place) = None
filter_fault (Err fail) = Some (of_filter fail)

-- a table that is not there now, then what is wrong with the filter as in a scan
abbrev pub select_fault : Option Filter → Option (List Column) → Option OverFail
select_fault f None = Some NoTable
select_fault f (Some columns) = filter_fault (filter_place columns f)

abbrev pub same_kind : Kind → Kind → Bool
same_kind kinds.Int kinds.Int = true
same_kind kinds.Text kinds.Text = true
same_kind kinds.Bytes kinds.Bytes = true
same_kind kinds.Bool kinds.Bool = true
same_kind a b = false

-- the places of the columns that are compared, or why there are none: a column that is not there, then kinds that
-- differ, with the right column counted from 1
abbrev pub joining_places : Option (ℕ × Kind) → Option (ℕ × Kind) → Result Places OverFail
joining_places None b = Err NoColumn
joining_places (Some a) None = Err NoColumn
joining_places (Some a) (Some b) = if same_kind a.1 b.1 then Ok (record { left = a.0; right = b.0 }) else Err (BadType (b.0 + 1))

-- a table that is not there now, then what is wrong with the columns
abbrev pub join_fault : List ℕ → List ℕ → Option (List Column) → Option (List Column) → Option OverFail
join_fault left_column right_column None r = Some NoTable
join_fault left_column right_column (Some l) None = Some NoTable
join_fault left_column right_column (Some l) (Some r) = result_err (joining_places (column_named left_column l) (column_named right_column r))

-- a span without a moment comes first
abbrev pub over_fault : ℕ → ℕ → Option OverFail → Option OverFail
over_fault from to fault = if nat_lt from to then fault else Some NoSpan

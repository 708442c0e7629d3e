-- The columns of a table, where it is there.
use Rattle.std.specs.Prelude.{ℕ, Option, List, length}
use Rattle.std.specs.Option.{option_map, option_map_or}
use Rattle.tuple_bytes.specs.declared.op.Column.{Column}
use Rattle.history_model.specs.State.{State, table_of}
use Rattle.tt_table.specs.Tables.{TablesVersions, table_in}

-- from a state
abbrev pub columns_of : State → List ℕ → Option (List Column)
columns_of s name = option_map (λ t. t.columns) (table_of name s)

-- from tables that keep every version
abbrev pub columns_in : TablesVersions → List ℕ → Option (List Column)
columns_in all name = option_map (λ t. t.columns) (table_in all name)

-- how many there are
abbrev pub width_of : Option (List Column) → ℕ
width_of columns = option_map_or length columns 0

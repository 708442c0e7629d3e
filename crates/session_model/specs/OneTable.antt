-- What operations make of the table of one name.
use Rattle.std.specs.Prelude.{◌≡◌, ℕ, if◌then◌else◌, List, [], ◌∷◌, Option}
use Rattle.std.specs.Option.{option_map}
use Rattle.tuple_bytes.specs.declared.op.Op.{Op}
use Rattle.tuple_bytes.specs.declared.item.Txn.{Txn}
use Rattle.tuple_bytes.specs.declared.op.Op.TheVariants.{Create, Put, Remove}
use Rattle.history_model.specs.State.{table_of, after_ops, state, Table, created, with_row, without_row}
use Rattle.history_model.specs.Values.{same_name}

-- an operation at another name leaves it
abbrev pub on_table : List ℕ → Op → Option Table → Option Table
on_table name (Create n columns) o = if same_name n name then created n columns o else o
on_table name (Put n row) o = if same_name n name then option_map (with_row row) o else o
on_table name (Remove n k) o = if same_name n name then option_map (without_row k) o else o

-- operations, one after another
abbrev pub on_tables : List ℕ → List Op → Option Table → Option Table
on_tables name [] o = o
on_tables name (op ∷ ops) o = on_tables name ops (on_table name op o)

-- A table behind operations is made of that table alone, so a scan in a session needs no other.
abbrev pub OneTableIsEnough : Type 0
OneTableIsEnough = (ts : List Txn) (m : ℕ) (name : List ℕ) (ops : List Op) → table_of name (after_ops ops (state ts m)) ≡ on_tables name ops (table_of name (state ts m))

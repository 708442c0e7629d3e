-- The history of a key, from the transactions alone.
use Rattle.std.specs.Prelude.{◌≡◌, ℕ, Option, Some, None, Result, Ok, Err, List}
use Rattle.tuple_bytes.specs.declared.value.Value.{Value}
use Rattle.tuple_bytes.specs.declared.item.Txn.{Txn}
use Rattle.tuple_bytes.specs.declared.filter.Filter.{Filter}
use Rattle.history_model.specs.declared.change.TableFail.{TableFail}
use Rattle.history_model.specs.declared.change.TableFail.TheVariants.{NoTable}
use Rattle.history_model.specs.Answers.{unless_fault, key_fault, row_at}
use Rattle.history_model.specs.Changes.{changes_of}
use Rattle.history_model.specs.State.{Table, state, table_of}
use Rattle.tt_table.specs.declared.version.Version.{Version}
use Rattle.tt_table.specs.Stands.{versions_from}
use Rattle.tt_table.specs.Tables.{TablesVersions, state_at, table_in}
use Rattle.asof_query.specs.Filters.{scan_of, history_in}

-- versions of a key, unless there is no such table or the key does not fit it
abbrev pub told : Value → List Version → Option Table → Result (List Version) TableFail
told key versions None = Err NoTable
told key versions (Some t) = unless_fault (key_fault t.columns key) (Ok versions)

-- the versions that the changes of a key make, up to a moment
abbrev pub history_told : List ℕ → Value → List Txn → ℕ → Result (List Version) TableFail
history_told name key txns m = told key (versions_from (changes_of name key txns m)) (table_of name (state txns m))

-- tables that stand for transactions answer as the transactions say
pub record AnswersStand (all : TablesVersions) (txns : List Txn) : Type 0 where
  pub rows : (m : ℕ) (name : List ℕ) (key : Value) → row_at (state_at all m) name key ≡ row_at (state txns m) name key
  pub scans : (m : ℕ) (name : List ℕ) (f : Option Filter) → scan_of (state_at all m) name f ≡ scan_of (state txns m) name f
  pub histories : (name : List ℕ) (key : Value) → history_in key (table_in all name) ≡ history_told name key txns all.last

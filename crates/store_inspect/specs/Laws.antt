-- What the definitions mean, in the words of statements.
use Rattle.std.specs.Prelude.{◌≡◌, ◌↔◌, Bool, true, None}
use Rattle.tuple_bytes.specs.declared.op.Op.{Op}
use Rattle.tuple_bytes.specs.declared.op.Op.TheVariants as ops
use Rattle.history_model.specs.declared.change.Write.{Write}
use Rattle.history_model.specs.Values.{are_columns}
use Rattle.history_model.specs.State.{State}
use Rattle.history_model.specs.Answers.{op_of, write_fault}
use Rattle.store_inspect.specs.Items.{is_fitting_op}

-- the columns that it creates, if any, are such as a statement may name
abbrev pub has_columns : Op → Bool
has_columns (ops.Create name columns) = are_columns columns
has_columns (ops.Put name row) = true
has_columns (ops.Remove name key) = true

-- a write becomes the operation, and the tables refuse it nothing
pub record IsMadeBy (op : Op) (s : State) (write : Write) : Type 0 where
  pub becomes : op_of write ≡ op
  pub accepted : write_fault write s ≡ None

-- An operation fits exactly where some write that is not refused becomes it.
abbrev pub FittingIsMade : Type 0
FittingIsMade = (op : Op) (s : State) → has_columns op ≡ true → (is_fitting_op op s ≡ true) ↔ ((write : Write) × IsMadeBy op s write)

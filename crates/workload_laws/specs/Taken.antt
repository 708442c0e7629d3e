-- Whether the tables take the changes of statements.
use Rattle.std.specs.Prelude.{◌≡◌, ℕ, List, [], ◌∷◌, Option, Some, None, Ok}
use Rattle.history_model.specs.declared.change.Write.{Write}
use Rattle.history_model.specs.Answers.{op_of, prepared}
use Rattle.history_model.specs.Glance.{IsOrdered}
use Rattle.history_model.specs.State.{State, table_of, after_op}
use Rattle.stmt_text.specs.declared.stmt.Stmt.{Stmt}
use Rattle.statement_core.specs.Steps.{write_in}
use Rattle.workload_make.specs.Script.{made, script_stmts}

-- a change is taken; no change is nothing to be taken
abbrev pub IsTaken : State → Option Write → Type 0
IsTaken s None = Unit {0}
IsTaken s (Some write) = prepared s write ≡ Ok (op_of write)

-- the tables after it
abbrev pub changed : State → Option Write → State
changed s None = s
changed s (Some write) = after_op (op_of write) s

-- each one, after those before it
abbrev pub AreTaken : State → List Stmt → Type 0
AreTaken s [] = Unit {0}
AreTaken s (stmt ∷ stmts) = IsTaken s (write_in stmt) × AreTaken (changed s (write_in stmt)) stmts

-- No change of a script is refused by tables without the script's own: the keys that are present are those that have a row.
abbrev pub ScriptsAreTaken : Type 0
ScriptsAreTaken = (width last seed count : ℕ) (s : State) → IsOrdered s → table_of made s ≡ None → AreTaken s (script_stmts width last seed count)

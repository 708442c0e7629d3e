-- What a session that was alone wants to store fits the tables.
use Rattle.std.proofs.Common.{◌≡◌, Option, Some, None, Result, Ok, Err, List, [], ◌∷◌, ◌++◌, refl}
use Rattle.tuple_bytes.specs.declared.op.Op.{Op}
use Rattle.history_model.specs.declared.change.TableFail.{TableFail}
use Rattle.history_model.specs.declared.change.Write.{Write}
use Rattle.history_model.specs.Answers.{prepared}
use Rattle.history_model.specs.State.{State, after_op, after_ops}
use Rattle.store_engine.specs.declared.fail.StoreFail.{StoreFail}
use Rattle.stmt_text.specs.declared.stmt.Stmt.{Stmt}
use Rattle.statement_core.specs.Database as stores
use Rattle.statement_core.specs.Steps.{write_in}
use Rattle.session_model.specs.Statements.{size_fault, pended, pend, change_or_read, say}
use Rattle.session_model.specs.Alone.{alone_from}
use Rattle.session_model.specs.Pending.{IsPrepared, ArePrepared, PendingFits}

one_more : (s : State) (ops : List Op) (op : Op) → ArePrepared s ops → IsPrepared (after_ops ops s) op → ArePrepared s (ops ++ op ∷ [])
one_more s [] op h is = (is, tt)
one_more s (first ∷ ops) op h is = (h.0, one_more (after_op first s) ops op h.1 is)

module _ (w : stores.Database) where
  pended_fits : (pending : List Op) (op : Op) (f : Option StoreFail) → ArePrepared (stores.tables_now w) pending → IsPrepared (after_ops pending (stores.tables_now w)) op → ArePrepared (stores.tables_now w) (pended pending op f).pending
  pended_fits pending op None h is = one_more (stores.tables_now w) pending op h is
  pended_fits pending op (Some fail) h is = h

  pend_fits : (pending : List Op) (change : Write) (r : Result Op TableFail) → prepared (after_ops pending (stores.tables_now w)) change ≡ r → ArePrepared (stores.tables_now w) pending → ArePrepared (stores.tables_now w) (pend pending r).pending
  pend_fits pending change (Ok op) e h = pended_fits pending op (size_fault (pending ++ op ∷ [])) h (record { write = change; is = e })
  pend_fits pending change (Err fail) e h = h

  change_fits : (pending : List Op) (change : Option Write) (stmt : Stmt) → ArePrepared (stores.tables_now w) pending → ArePrepared (stores.tables_now w) (change_or_read w pending change stmt).pending
  change_fits pending (Some change) stmt h = pend_fits pending change (prepared (after_ops pending (stores.tables_now w)) change) refl h
  change_fits pending None stmt h = h

  say_fits : (pending : List Op) (stmt : Stmt) → ArePrepared (stores.tables_now w) pending → ArePrepared (stores.tables_now w) (say w pending stmt).pending
  unfolding say
  say_fits pending stmt h = change_fits pending (write_in stmt) stmt h

  alone_fits : (ss : List Stmt) (pending : List Op) → ArePrepared (stores.tables_now w) pending → ArePrepared (stores.tables_now w) (alone_from w pending ss).pending
  alone_fits [] pending h = h
  alone_fits (stmt ∷ ss) pending h = alone_fits ss (say w pending stmt).pending (say_fits pending stmt h)

pub pending_fits : PendingFits
pending_fits w ss = alone_fits w ss [] tt

-- What each answer promises of the world behind it.
use Rattle.std.proofs.Common.{◌≡◌, ◌≢◌, ℕ, true, false, eqb, if◌then◌else◌, Option, Some, None, Result, Ok, Err, List, [], ◌∷◌, ◌++◌, refl, ap, arith}
use Rattle.std.proofs.lemmas.Bool.Decides.{nat_tests}
use Rattle.tuple_bytes.specs.declared.op.Op.{Op}
use Rattle.history_model.specs.declared.change.TableFail.{TableFail}
use Rattle.history_model.specs.declared.change.Write.{Write}
use Rattle.history_model.specs.Answers.{prepared, row_at}
use Rattle.history_model.specs.History.{txns, last_moment}
use Rattle.history_model.specs.State.{after_ops, state}
use Rattle.asof_query.specs.Filters.{scan_of}
use Rattle.asof_query.specs.Told.{history_told}
use Rattle.sequenced_query.specs.Columns.{columns_of}
use Rattle.sequenced_query.specs.Spans.{select_over, join_over}
use Rattle.store_engine.specs.declared.fail.StoreFail.{StoreFail}
use Rattle.store_engine.specs.Refusals.{next_txn, commit_fault}
use Rattle.stmt_text.specs.declared.stmt.Stmt.{Stmt}
use Rattle.stmt_text.specs.declared.stmt.Stmt.TheVariants as stmts
use Rattle.stmt_text.specs.declared.line.Line.TheVariants as lines
use Rattle.statement_core.specs.Database as stores
use Rattle.statement_core.specs.Steps.{write_in, committed}
use Rattle.statement_core.specs.Promises as promises
use Rattle.statement_core.specs.Replies.{is_refusal}
use Rattle.statement_core.proofs.Promising.{by_tables, by_store, of_found, of_scanned, of_told, of_pieced, steps_keep}
use Rattle.session_model.specs.Statements.{tables_over, read_over, size_fault, pended, pend, change_or_read, say}
use Rattle.session_model.specs.Service.{Session, Service, put_at, new_session}
use Rattle.session_model.specs.Steps.{stored, store_pending, unless_conflict, conflict, heard, in_session, serve}
use Rattle.session_model.specs.Promises.{KeepsPromise, StepsKeepPromises, RefusedLeavePending, ReadsAreAlike, IsAsOutside, CommitsAreAlike}
use Rattle.session_model.proofs.Later.{txns_more}

module _ (w : stores.Database) where
  of_read : (pending : List Op) (stmt : Stmt) → promises.IsPromised w (read_over w pending stmt) w
  of_read pending (stmts.Get table key moment) = of_found w (row_at (tables_over w pending moment) table key)
  of_read pending (stmts.Scan table filter moment) = of_scanned w (scan_of (tables_over w pending moment) table filter)
  of_read pending (stmts.History table key) = of_told w (history_told table key (txns w.items) (last_moment w.items))
  of_read pending (stmts.OverSelect from to table filter) = of_pieced w (select_over (columns_of (stores.tables_now w)) (state (txns w.items)) table filter from to)
  of_read pending (stmts.OverJoin from to left right left_column right_column) =
      of_pieced w (join_over (columns_of (stores.tables_now w)) (state (txns w.items)) left left_column right right_column from to)
  of_read pending stmt = refl

  of_pended : (pending : List Op) (op : Op) (f : Option StoreFail) → promises.IsPromised w (pended pending op f).reply w
  of_pended pending op None = refl
  of_pended pending op (Some fail) = by_store w fail

  of_pend : (pending : List Op) (r : Result Op TableFail) → promises.IsPromised w (pend pending r).reply w
  of_pend pending (Ok op) = of_pended pending op (size_fault (pending ++ op ∷ []))
  of_pend pending (Err fail) = by_tables w fail

  of_change : (pending : List Op) (change : Option Write) (stmt : Stmt) → promises.IsPromised w (change_or_read w pending change stmt).reply w
  of_change pending (Some change) stmt = of_pend pending (prepared (after_ops pending (stores.tables_now w)) change)
  of_change pending None stmt = of_read pending stmt

  of_say : (pending : List Op) (stmt : Stmt) → promises.IsPromised w (say w pending stmt).reply w
  unfolding say
  of_say pending stmt = of_change pending (write_in stmt) stmt

module _ (w : Service) (n : ℕ) (now : ℕ) where
  others : (o : Option Session) (k : ℕ) → k ≢ n → put_at n o w.sessions k ≡ w.sessions k
  others o k apart = let e : eqb k n ≡ false = grind (arith, nat_tests) in ap (λ b. if b then o else w.sessions k) e

  module _ (line : Stmt) where
    stored_keeps : (ops : List Op) (f : Option StoreFail) → KeepsPromise w (lines.InSession n line) (stored w n ops now f)
    stored_keeps ops None = record {
      store = record {
        txn = next_txn (stores.tail_of_database w.store) ops now;
        behind = txns_more w.store.items (next_txn (stores.tail_of_database w.store) ops now);
        numbered = refl;
        next = refl;
        header = refl;
      };
      sessions = others None;
    }
    stored_keeps ops (Some fail) = record { store = by_store w.store fail; sessions = λ k apart. refl }

    pending_keeps : (ops : List Op) → KeepsPromise w (lines.InSession n line) (store_pending w n ops now)
    pending_keeps [] = record { store = refl; sessions = others None }
    pending_keeps (op ∷ ops) = stored_keeps (op ∷ ops) (commit_fault (stores.tail_of_database w.store) false (op ∷ ops) now)

    commit_keeps : (ops : List Op) (c : Option ℕ) → KeepsPromise w (lines.InSession n line) (unless_conflict w n ops now c)
    commit_keeps ops (Some number) = record { store = refl; sessions = others None }
    commit_keeps ops None = pending_keeps ops

  session_keeps : (o : Option Session) (stmt : Stmt) → KeepsPromise w (lines.InSession n stmt) (in_session w n o stmt now)
  session_keeps None stmts.Begin = record { store = refl; sessions = others (Some (new_session w)) }
  session_keeps None stmt = record { store = refl; sessions = λ k apart. refl }
  session_keeps (Some s) stmts.Begin = record { store = refl; sessions = λ k apart. refl }
  session_keeps (Some s) stmts.Commit = commit_keeps stmts.Commit s.pending (conflict w s)
  session_keeps (Some s) stmts.Abort = record { store = refl; sessions = others None }
  session_keeps (Some s) stmt = record { store = of_say w.store s.pending stmt; sessions = others (Some (heard s stmt (say w.store s.pending stmt))) }

pub steps_keep_promises : StepsKeepPromises
unfolding serve
steps_keep_promises w (lines.Plain stmt) now = record { store = steps_keep w.store (lines.Plain stmt) now; sessions = refl }
steps_keep_promises w (lines.InSession n stmt) now = session_keeps w n now (w.sessions n) stmt
steps_keep_promises w lines.Blank now = record { store = refl; sessions = refl }
steps_keep_promises w (lines.Drill event) now = record { store = refl; sessions = refl }

-- ---- refused statements

pended_leaves : (pending : List Op) (op : Op) (f : Option StoreFail) → is_refusal (pended pending op f).reply ≡ true → (pended pending op f).pending ≡ pending
pended_leaves pending op None e = cc
pended_leaves pending op (Some fail) e = refl

pend_leaves : (pending : List Op) (r : Result Op TableFail) → is_refusal (pend pending r).reply ≡ true → (pend pending r).pending ≡ pending
pend_leaves pending (Ok op) e = pended_leaves pending op (size_fault (pending ++ op ∷ [])) e
pend_leaves pending (Err fail) e = refl

change_leaves : (w : stores.Database) (pending : List Op) (change : Option Write) (stmt : Stmt) → is_refusal (change_or_read w pending change stmt).reply ≡ true → (change_or_read w pending change stmt).pending ≡ pending
change_leaves w pending (Some change) stmt e = pend_leaves pending (prepared (after_ops pending (stores.tables_now w)) change) e
change_leaves w pending None stmt e = refl

pub refused_leave_pending : RefusedLeavePending
unfolding say
refused_leave_pending w pending stmt e = change_leaves w pending (write_in stmt) stmt e

-- ---- nothing pending

pub reads_are_alike : ReadsAreAlike
unfolding say
reads_are_alike w (stmts.Create table columns) e = cc
reads_are_alike w (stmts.Insert table row) e = cc
reads_are_alike w (stmts.Update table row) e = cc
reads_are_alike w (stmts.Delete table key) e = cc
reads_are_alike w (stmts.Get table key None) e = refl
reads_are_alike w (stmts.Get table key (Some m)) e = refl
reads_are_alike w (stmts.Scan table f None) e = refl
reads_are_alike w (stmts.Scan table f (Some m)) e = refl
reads_are_alike w stmt e = refl

-- ---- commits

pub commits_are_alike : CommitsAreAlike
commits_are_alike w n now op ops = by (commit_fault (stores.tail_of_database w.store) false (op ∷ ops) now)
  where
    by : (f : Option StoreFail) → IsAsOutside w (stored w n (op ∷ ops) now f) (committed f w.store (next_txn (stores.tail_of_database w.store) (op ∷ ops) now))
    by None = record { store = refl; answer = refl }
    by (Some fail) = record { store = refl; answer = refl }

-- What a line stores: nothing, or one transaction, which it acknowledges.
use Rattle.std.proofs.Common.{◌≡◌, ◌⊎◌, inl, inr, ℕ, ◌≤◌, false, List, [], ◌∷◌, length, Option, Some, None, Result, Ok, Err, refl, ap, arith}
use Rattle.std.specs.Prelude.{nat_lt}
use Rattle.std.proofs.lemmas.Bool.Decides.{nat_tests}
use Rattle.tuple_bytes.specs.declared.item.Item.TheVariants as items
use Rattle.tuple_bytes.specs.declared.op.Op.{Op}
use Rattle.tuple_bytes.specs.Limits.{max_ops}
use Rattle.history_model.specs.declared.change.TableFail.{TableFail}
use Rattle.history_model.specs.declared.change.Write.{Write}
use Rattle.history_model.specs.Answers.{op_of, prepared}
use Rattle.stmt_text.specs.declared.stmt.Stmt.{Stmt}
use Rattle.stmt_text.specs.declared.stmt.Stmt.TheVariants as stmts
use Rattle.stmt_text.specs.declared.line.Line.{Line}
use Rattle.stmt_text.specs.declared.line.Line.TheVariants as lines
use Rattle.store_engine.specs.declared.fail.StoreFail.{StoreFail}
use Rattle.store_engine.specs.declared.fail.StoreFail.TheVariants as fails
use Rattle.store_engine.specs.Refusals.{Tail, moment_at, is_back, is_late, item_fault, commit_fault, next_txn}
use Rattle.statement_core.specs.declared.reply.Reply.TheVariants as replies
use Rattle.statement_core.specs.Database as stores
use Rattle.statement_core.specs.Database.{tail_of_database, tables_now}
use Rattle.statement_core.specs.Steps as statements
use Rattle.statement_core.specs.Steps.{committed, commit_prepared, write_in, write_or_read}
use Rattle.statement_core.proofs.Preparing.{op_is}
use Rattle.session_model.specs.Service.{Session, Service}
use Rattle.session_model.specs.Steps.{Replied, Served, outside, stored, store_pending, unless_conflict, conflict, in_session, serve}
use Rattle.session_model.proofs.Rooms.{no_cause}

-- ---- what is stored

-- the operations that a line asks to be stored: the change of its statement, or what its session wants to store
abbrev pub AsksFor : Service → Line → List Op → Type 0
AsksFor w (lines.Plain stmt) ops = (change : Write) × (write_in stmt ≡ Some change) × (ops ≡ op_of change ∷ [])
AsksFor w (lines.InSession n stmt) ops = (s : Session) × (w.sessions n ≡ Some s) × (ops ≡ s.pending)
AsksFor w line ops = ⊥

-- they are stored, and acknowledged by their number
pub record StoresOne (w : Service) (line : Line) (now : ℕ) (next : Served) : Type 0 where
  pub ops : List Op
  pub asked : AsksFor w line ops
  pub some : 1 ≤ length ops
  pub store : next.world.store ≡ stores.with_txn w.store (next_txn (tail_of_database w.store) ops now)
  pub answer : next.answer ≡ Replied (replies.Committed (next_txn (tail_of_database w.store) ops now).number)
  pub free : commit_fault (tail_of_database w.store) false ops now ≡ None

abbrev pub StoresOrNot : Service → Line → ℕ → Served → Type 0
StoresOrNot w line now next = (next.world.store ≡ w.store) ⊎ StoresOne w line now next

module _ (w : Service) (now : ℕ) where
  -- ---- outside sessions

  module _ (stmt : Stmt) (change : Write) (asked : write_in stmt ≡ Some change) where
    of_op : (op : Op) → op ≡ op_of change → (fault : Option StoreFail) → commit_fault (tail_of_database w.store) false (op ∷ []) now ≡ fault
        → StoresOrNot w (lines.Plain stmt) now (outside w (committed fault w.store (next_txn (tail_of_database w.store) (op ∷ []) now)))
    of_op op is None free = inr (record { ops = op ∷ []; asked = (change, asked, ap (λ o. o ∷ []) is); some = omega arith; store = refl; answer = refl; free = free })
    of_op op is (Some fail) free = inl refl

    of_prepared : (r : Result Op TableFail) → prepared (tables_now w.store) change ≡ r → StoresOrNot w (lines.Plain stmt) now (outside w (commit_prepared w.store r now))
    of_prepared (Ok op) is = of_op op (op_is (tables_now w.store) change op is) (commit_fault (tail_of_database w.store) false (op ∷ []) now) refl
    of_prepared (Err fail) is = inl refl

  of_write : (stmt : Stmt) (change : Option Write) → write_in stmt ≡ change → StoresOrNot w (lines.Plain stmt) now (outside w (write_or_read w.store change stmt now))
  of_write stmt (Some change) asked = of_prepared stmt change asked (prepared (tables_now w.store) change) refl
  of_write stmt None asked = inl refl

  of_plain : (stmt : Stmt) → StoresOrNot w (lines.Plain stmt) now (outside w (statements.perform w.store (lines.Plain stmt) now))
  unfolding statements.perform
  of_plain stmt = of_write stmt (write_in stmt) refl

  -- ---- in a session

  module _ (n : ℕ) (stmt : Stmt) (s : Session) (is : w.sessions n ≡ Some s) where
    of_stored : (op : Op) (ops : List Op) → op ∷ ops ≡ s.pending → (fault : Option StoreFail) → commit_fault (tail_of_database w.store) false (op ∷ ops) now ≡ fault → StoresOrNot w (lines.InSession n stmt) now (stored w n (op ∷ ops) now fault)
    of_stored op ops all None free = inr (record { ops = op ∷ ops; asked = (s, is, all); some = omega arith; store = refl; answer = refl; free = free })
    of_stored op ops all (Some fail) free = inl refl

    of_pending : (ops : List Op) → ops ≡ s.pending → StoresOrNot w (lines.InSession n stmt) now (store_pending w n ops now)
    of_pending [] all = inl refl
    of_pending (op ∷ ops) all = of_stored op ops all (commit_fault (tail_of_database w.store) false (op ∷ ops) now) refl

    of_commit : (found : Option ℕ) → StoresOrNot w (lines.InSession n stmt) now (unless_conflict w n s.pending now found)
    of_commit (Some number) = inl refl
    of_commit None = of_pending s.pending refl

  of_session : (n : ℕ) (o : Option Session) → w.sessions n ≡ o → (stmt : Stmt) → StoresOrNot w (lines.InSession n stmt) now (in_session w n o stmt now)
  of_session n None is stmts.Begin = inl refl
  of_session n None is stmt = inl refl
  of_session n (Some s) is stmts.Begin = inl refl
  of_session n (Some s) is stmts.Commit = of_commit n stmts.Commit s is (conflict w s)
  of_session n (Some s) is stmts.Abort = inl refl
  of_session n (Some s) is stmt = inl refl

pub stores_or_not : (w : Service) (line : Line) (now : ℕ) → StoresOrNot w line now (serve w line now)
unfolding serve
stores_or_not w (lines.Plain stmt) now = of_plain w now stmt
stores_or_not w (lines.InSession n stmt) now = of_session w now n (w.sessions n) refl stmt
stores_or_not w lines.Blank now = inl refl
stores_or_not w (lines.Drill event) now = inl refl

-- ---- what nothing stood against

pub record IsFree (t : Tail) (ops : List Op) (now : ℕ) : Type 0 where
  pub later : t.last ≤ moment_at t.header now
  pub on_time : is_late t now ≡ false
  pub few : length ops ≤ max_ops
  pub room : item_fault t false (items.Txn (next_txn t ops now)) ≡ None

pub is_free : (t : Tail) (ops : List Op) (now : ℕ) → commit_fault t false ops now ≡ None → IsFree t ops now
is_free t ops now free =
    let back = no_cause (is_back t now) (fails.ClockBack t.last) _ free in
    let late = no_cause (is_late t now) fails.TooLate _ back.1 in
    let many = no_cause (nat_lt max_ops (length ops)) fails.TooManyOps _ late.1 in
    record { later = (let b = back.0 in grind (arith, nat_tests, b)); on_time = late.0; few = (let b = many.0 in grind (arith, nat_tests, b)); room = many.1 }

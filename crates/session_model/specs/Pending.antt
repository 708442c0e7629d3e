-- What is pending has room in a transaction, and fits the tables.
use Rattle.std.specs.Prelude.{◌≡◌, ℕ, false, List, [], ◌∷◌, length, Option, None, IfSome, Ok}
use Rattle.tuple_bytes.specs.declared.op.Op.{Op}
use Rattle.tuple_bytes.specs.Spelling.{spell_txn}
use Rattle.history_model.specs.declared.change.Write.{Write}
use Rattle.history_model.specs.Answers.{prepared}
use Rattle.history_model.specs.State.{State, after_ops}
use Rattle.stmt_text.specs.declared.stmt.Stmt.{Stmt}
use Rattle.stmt_text.specs.declared.line.Line.{Line}
use Rattle.store_engine.specs.declared.fail.StoreFail.TheVariants as fails
use Rattle.store_engine.specs.declared.fail.StoreFail.{StoreFail}
use Rattle.store_engine.specs.Refusals.{Tail, where_true, is_back, is_late, is_full, commit_fault}
use Rattle.statement_core.specs.Database as stores
use Rattle.session_model.specs.Statements.{draft, size_fault}
use Rattle.session_model.specs.Service.{Session, Service}
use Rattle.session_model.specs.Steps.{serve}
use Rattle.session_model.specs.Alone.{alone}

-- the bytes that operations take
abbrev pub size_of : List Op → ℕ
size_of ops = length (spell_txn (draft ops))

-- a session, if there is one, wants to store what a transaction can hold
abbrev pub HasRoom : Option Session → Type 0
HasRoom o = IfSome o (λ s. size_fault s.pending ≡ None)

-- What is pending has room in a transaction.
abbrev pub PendingHasRoom : Type 0
PendingHasRoom = (w : Service) (line : Line) (now : ℕ) → ((n : ℕ) → HasRoom (w.sessions n)) → (n : ℕ) → HasRoom ((serve w line now).world.sessions n)

-- why operations that have room are not stored
abbrev pub room_fault : Tail → List Op → ℕ → Option StoreFail
room_fault t ops now =
    where_true (is_back t now) (fails.ClockBack t.last)
    (where_true (is_late t now) fails.TooLate
    (where_true (is_full t.end (size_of ops)) fails.StoreFull None))

-- So a commit is refused for the clock or for a full store, and for nothing else.
abbrev pub RoomIsEnough : Type 0
RoomIsEnough = (t : Tail) (ops : List Op) (now : ℕ) → size_fault ops ≡ None → commit_fault t false ops now ≡ room_fault t ops now

-- the tables prepare it
pub record IsPrepared (s : State) (op : Op) : Type 0 where
  pub write : Write
  pub is : prepared s write ≡ Ok op

-- each one after those before it
abbrev pub ArePrepared : State → List Op → Type 0
ArePrepared s [] = Unit {0}
ArePrepared s (op ∷ ops) = IsPrepared s op × ArePrepared (after_ops (op ∷ []) s) ops

-- What a session that was alone wants to store fits the tables, in turn.
abbrev pub PendingFits : Type 0
PendingFits = (w : stores.Database) (ss : List Stmt) → ArePrepared (stores.tables_now w) (alone w ss).pending

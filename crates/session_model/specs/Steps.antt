-- What a line does to a world with sessions, and what is replied.
use Rattle.std.specs.Prelude.{ℕ, false, List, ◌++◌, ◌∷◌, [], Option, Some, None}
use Rattle.tuple_bytes.specs.declared.op.Op.{Op}
use Rattle.history_model.specs.History.{txns}
use Rattle.stmt_text.specs.declared.stmt.Stmt.{Stmt}
use Rattle.stmt_text.specs.declared.stmt.Stmt.TheVariants as stmts
use Rattle.stmt_text.specs.declared.line.Line.{Line}
use Rattle.stmt_text.specs.declared.line.Line.TheVariants as lines
use Rattle.store_engine.specs.declared.fail.StoreFail.{StoreFail}
use Rattle.store_engine.specs.Refusals.{next_txn, commit_fault}
use Rattle.statement_core.specs.declared.reply.Refusal.{Refusal}
use Rattle.statement_core.specs.declared.reply.Refusal.TheVariants as refusals
use Rattle.statement_core.specs.declared.reply.Reply.{Reply}
use Rattle.statement_core.specs.declared.reply.Reply.TheVariants as replies
use Rattle.statement_core.specs.Database as stores
use Rattle.statement_core.specs.Steps as statements
use Rattle.statement_core.specs.Refusing.{refused_by_store}
use Rattle.session_model.specs.Places.{reads_of, first_touching, since}
use Rattle.session_model.specs.Statements.{Said, say}
use Rattle.session_model.specs.Service.{Session, Service, with_session, with_store, new_session}

-- what a statement or the store replied; or the session refused the line, and neither was asked
pub data Answer : Type 0 where
  Replied : (reply : Reply) → Answer
  Stopped : (refusal : Refusal) → Answer

-- as a reply
abbrev pub reply_of : Answer → Reply
reply_of (Replied reply) = reply
reply_of (Stopped refusal) = replies.Refused refusal

pub record Served : Type 0 where
  pub world : Service
  pub answer : Answer

abbrev pub answers : Service → Answer → Served
answers w answer = record { world = w; answer = answer }

-- ---- outside sessions

-- a transaction of its own, or a read; the sessions stay as they are
abbrev pub outside : Service → statements.Performed → Served
outside w next = answers (with_store w next.world) (Replied next.reply)

-- ---- the end of a session

abbrev pub ended : Service → ℕ → Service
ended w n = with_session w n None

-- what the session wants to store is stored, or it stays as it is
abbrev pub stored : Service → ℕ → List Op → ℕ → Option StoreFail → Served
stored w n ops now None =
    answers (ended (with_store w (stores.with_txn w.store (next_txn (stores.tail_of_database w.store) ops now))) n)
    (Replied (replies.Committed (next_txn (stores.tail_of_database w.store) ops now).number))
stored w n ops now (Some fail) = answers w (Replied (refused_by_store fail))

-- nothing to store is no transaction, at any moment
abbrev pub store_pending : Service → ℕ → List Op → ℕ → Served
store_pending w n [] now = answers (ended w n) (Replied replies.Done)
store_pending w n (op ∷ ops) now = stored w n (op ∷ ops) now (commit_fault (stores.tail_of_database w.store) false (op ∷ ops) now)

-- a transaction stored since the begin that touches what was read comes first
abbrev pub unless_conflict : Service → ℕ → List Op → ℕ → Option ℕ → Served
unless_conflict w n ops now (Some number) = answers (ended w n) (Stopped (refusals.Conflict number))
unless_conflict w n ops now None = store_pending w n ops now

-- the number of the first such transaction
abbrev pub conflict : Service → Session → Option ℕ
conflict w s = first_touching s.reads (since s.begun (txns w.store.items))

abbrev pub commit : Service → ℕ → Session → ℕ → Served
commit w n s now = unless_conflict w n s.pending now (conflict w s)

-- ---- a statement of a session

-- the session after a statement, refused or not: it has read what the statement names
abbrev pub heard : Session → Stmt → Said → Session
heard s stmt said = record { begun = s.begun; reads = s.reads ++ reads_of stmt; pending = said.pending }

abbrev pub speak : Service → ℕ → Session → Stmt → Said → Served
speak w n s stmt said = answers (with_session w n (Some (heard s stmt said))) (Replied said.reply)

abbrev pub in_session : Service → ℕ → Option Session → Stmt → ℕ → Served
in_session w n None stmts.Begin now = answers (with_session w n (Some (new_session w))) (Replied replies.Done)
in_session w n None stmt now = answers w (Stopped refusals.NoSession)
in_session w n (Some s) stmts.Begin now = answers w (Stopped refusals.SessionOpen)
in_session w n (Some s) stmts.Commit now = commit w n s now
in_session w n (Some s) stmts.Abort now = answers (ended w n) (Replied replies.Done)
in_session w n (Some s) stmt now = speak w n s stmt (say w.store s.pending stmt)

-- ---- a line

-- What a line does at these clock seconds. A line that is no statement does nothing here.
unfoldable pub serve : Service → Line → ℕ → Served
serve w (lines.Plain stmt) now = outside w (statements.perform w.store (lines.Plain stmt) now)
serve w (lines.InSession n stmt) now = in_session w n (w.sessions n) stmt now
serve w line now = answers w (Replied replies.Done)

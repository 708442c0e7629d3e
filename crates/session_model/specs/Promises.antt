-- What the answer to a line promises.
use Rattle.std.specs.Prelude.{◌≡◌, ◌≢◌, ◌↔◌, ℕ, true, List, [], ◌∷◌, Some, None}
use Rattle.tuple_bytes.specs.declared.op.Op.{Op}
use Rattle.stmt_text.specs.declared.stmt.Stmt.TheVariants as stmts
use Rattle.stmt_text.specs.declared.line.Line.TheVariants as lines
use Rattle.stmt_text.specs.declared.stmt.Stmt.{Stmt}
use Rattle.stmt_text.specs.declared.line.Line.{Line}
use Rattle.statement_core.specs.declared.reply.Refusal.TheVariants as refusals
use Rattle.statement_core.specs.Database as stores
use Rattle.statement_core.specs.Steps as statements
use Rattle.statement_core.specs.Promises as promises
use Rattle.statement_core.specs.Replies.{is_refusal}
use Rattle.session_model.specs.Statements.{say}
use Rattle.session_model.specs.Service.{Session, Service}
use Rattle.session_model.specs.Steps.{Answer, Replied, Stopped, Served, store_pending, conflict, serve}

-- each of the three refusals of sessions comes exactly by its cause
pub record IsExact (w : Service) (n : ℕ) (stmt : Stmt) (answer : Answer) : Type 0 where
  pub no_session : (answer ≡ Stopped refusals.NoSession) ↔ ((w.sessions n ≡ None) × (stmt ≢ stmts.Begin))
  pub session_open : (answer ≡ Stopped refusals.SessionOpen) ↔ ((w.sessions n ≢ None) × (stmt ≡ stmts.Begin))
  pub conflict : (number : ℕ) → (answer ≡ Stopped (refusals.Conflict number)) ↔ ((s : Session) × (w.sessions n ≡ Some s) × (stmt ≡ stmts.Commit) × (conflict w s ≡ Some number))

abbrev pub RefusalsAreExact : Type 0
RefusalsAreExact = (w : Service) (n : ℕ) (stmt : Stmt) (now : ℕ) → IsExact w n stmt (serve w (lines.InSession n stmt) now).answer

-- what an answer promises of the store
abbrev pub IsPromised : stores.Database → Answer → stores.Database → Type 0
IsPromised w (Replied reply) new = promises.IsPromised w reply new
IsPromised w (Stopped refusal) new = new ≡ w

-- no other session changes
abbrev pub OnlyOwn : Service → Line → Service → Type 0
OnlyOwn w (lines.InSession n stmt) new = (k : ℕ) → k ≢ n → new.sessions k ≡ w.sessions k
OnlyOwn w line new = new.sessions ≡ w.sessions

-- the store is as the answer promises, and so are the other sessions
pub record KeepsPromise (w : Service) (line : Line) (next : Served) : Type 0 where
  pub store : IsPromised w.store next.answer next.world.store
  pub sessions : OnlyOwn w line next.world

abbrev pub StepsKeepPromises : Type 0
StepsKeepPromises = (w : Service) (line : Line) (now : ℕ) → KeepsPromise w line (serve w line now)

-- A refused statement leaves what is pending.
abbrev pub RefusedLeavePending : Type 0
RefusedLeavePending = (w : stores.Database) (pending : List Op) (stmt : Stmt) → is_refusal (say w pending stmt).reply ≡ true → (say w pending stmt).pending ≡ pending

-- Where nothing is pending, a statement that only reads is replied as outside sessions.
abbrev pub ReadsAreAlike : Type 0
ReadsAreAlike = (w : stores.Database) (stmt : Stmt) → statements.write_in stmt ≡ None → say w [] stmt ≡ record { reply = statements.read w stmt; pending = [] }

-- A commit stores what the same operations store outside sessions, and is replied the same.
pub record IsAsOutside (w : Service) (next : Served) (outside : statements.Performed) : Type 0 where
  pub store : next.world.store ≡ outside.world
  pub answer : next.answer ≡ Replied outside.reply

abbrev pub CommitsAreAlike : Type 0
CommitsAreAlike = (w : Service) (n now : ℕ) (op : Op) (ops : List Op) → IsAsOutside w (store_pending w n (op ∷ ops) now) (statements.commit w.store (op ∷ ops) now)

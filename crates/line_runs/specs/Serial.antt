-- Every run is serial: a session that commits was told what its statements are told alone, over the history just before.
use Rattle.std.specs.Prelude.{◌≡◌, ℕ, Bool, false, IsSome, List, [], ◌∷◌, ◌++◌, map, Option, Some, None, Result, Ok, Err}
use Rattle.tuple_bytes.specs.declared.op.Op.{Op}
use Rattle.stmt_text.specs.declared.error.ParseFail.{ParseFail}
use Rattle.stmt_text.specs.declared.stmt.Stmt.{Stmt}
use Rattle.stmt_text.specs.declared.stmt.Stmt.TheVariants as stmts
use Rattle.stmt_text.specs.declared.line.Line.{Line}
use Rattle.stmt_text.specs.declared.line.Line.TheVariants as lines
use Rattle.stmt_text.specs.Lines.{answer}
use Rattle.statement_core.specs.declared.reply.Reply.TheVariants as replies
use Rattle.statement_core.specs.Replies.{reply_text}
use Rattle.statement_core.specs.Database as statements
use Rattle.statement_core.specs.Steps as statement_steps
use Rattle.session_model.specs.Service.{Session, put_at}
use Rattle.session_model.specs.Alone.{Alone, alone}
use Rattle.store_world.specs.Found.{Found}
use Rattle.store_world.specs.World.{World}
use Rattle.store_world.specs.Steps.{Step, step}
use Rattle.line_runs.specs.Running.{Running, Timed, carry, carried, seconds_of}

-- ---- what a session was told

-- a statement of a session, and the text that was replied
pub record Told : Type 0 where
  pub stmt : Stmt
  pub text : List ℕ

-- of each session, since its begin
abbrev pub Logs : Type 0
Logs = ℕ → List Told

abbrev pub no_logs : Logs
no_logs n = []

-- `begin` starts a log where the session is not begun, and a statement goes behind it where it is
abbrev pub logged : Option Session → List Told → Stmt → List ℕ → List Told
logged None log stmts.Begin text = []
logged None log stmt text = log
logged (Some s) log stmts.Begin text = log
logged (Some s) log stmts.Commit text = log
logged (Some s) log stmts.Abort text = log
logged (Some s) log stmt text = log ++ record { stmt = stmt; text = text } ∷ []

-- a line of a world, to which this was replied
abbrev pub logged_in : World → Line → List ℕ → Logs → Logs
logged_in w (lines.InSession n stmt) text logs = put_at n (logged (w.sessions n) (logs n) stmt text) logs
logged_in w line text logs = logs

-- a line of a run
abbrev pub logged_by : World → ℕ → Found → Result Line ParseFail → Logs → Logs
logged_by w now found (Ok line) logs = logged_in w line (step w line now found).text logs
logged_by w now found (Err fail) logs = logs

-- lines, one after another
abbrev pub logs_after : Bool → Running → List Timed → Logs → Logs
logs_after scripted r [] logs = logs
logs_after scripted r (t ∷ timed) logs = logs_after scripted (carry scripted r t) timed (logged_by r.world (seconds_of scripted r t.second) t.found (answer t.line) logs)

-- ---- alone

-- statements of one session, alone over a history that does not change
abbrev pub alone_as : statements.Database → List Told → Alone
alone_as store log = alone store (map (λ t. t.stmt) log)

-- operations are one transaction, and none is stored where there are none
abbrev pub stored_alone : statements.Database → List Op → ℕ → statement_steps.Performed
stored_alone store [] now = statement_steps.says store replies.Done
stored_alone store (op ∷ ops) now = statement_steps.commit store (op ∷ ops) now

-- a commit of a session, to which this was replied since its begin: each text is that of the statement alone over the history
-- just before the commit, and what is stored is what the statements alone want to store
pub record CommitsAlone (w : World) (log : List Told) (now : ℕ) (next : Step) : Type 0 where
  pub store : statements.Database
  pub before : w.store ≡ Some store
  pub told : map (λ t. t.text) log ≡ map reply_text (alone_as store log).replies
  pub stored : next.world.store ≡ Some (stored_alone store (alone_as store log).pending now).world
  pub reply : next.text ≡ reply_text (stored_alone store (alone_as store log).pending now).reply

-- a run over an open store, before the first session
pub record IsFresh (begin : Running) : Type 0 where
  pub over : IsSome begin.world.store
  pub none : (n : ℕ) → begin.world.sessions n ≡ None

-- Behind any lines of a run, a commit of any session that is not refused is one of a session that was told so, alone.
abbrev pub RunsAreSerial : Type 0
RunsAreSerial = (scripted : Bool) (begin : Running) (timed : List Timed) (n now : ℕ) (found : Found) → IsFresh begin
    → (step (carried scripted begin timed).world (lines.InSession n stmts.Commit) now found).is_refused ≡ false
    → CommitsAlone (carried scripted begin timed).world (logs_after scripted begin timed no_logs n) now (step (carried scripted begin timed).world (lines.InSession n stmts.Commit) now found)

-- Whole runs: what is answered, what stands behind them, and what each session was told.
use Rattle.std.specs.Prelude.{ℕ, nat_lt, if◌then◌else◌, List, [], ◌∷◌, ◌++◌, None}
use Rattle.tuple_bytes.specs.declared.item.Item.TheVariants as items
use Rattle.history_model.specs.History.{last_moment}
use Rattle.stmt_text.specs.declared.stmt.Stmt.TheVariants as stmts
use Rattle.stmt_text.specs.declared.line.Line.TheVariants as lines
use Rattle.stmt_text.specs.declared.stmt.Stmt.{Stmt}
use Rattle.stmt_text.specs.declared.line.Line.{Line}
use Rattle.statement_core.specs.Database as stores
use Rattle.statement_core.specs.declared.reply.Reply.{Reply}
use Rattle.session_model.specs.Service.{Service, put_at, with_store}
use Rattle.session_model.specs.Steps.{Answer, Replied, serve}
use Rattle.session_model.specs.Alone.{Exchange}

-- a line at its clock seconds; a notarization, which stores a Frontier where the last moment is before it; a policy, which stores
-- its item; or a store is opened, the same or another, and all sessions are dropped
pub data Turn : Type 0 where
  Take : (line : Line) (now : ℕ) → Turn
  Reach : (moment : ℕ) → Turn
  Divide : (tile granule k algs : ℕ) → Turn
  Open : (store : stores.Database) → Turn

-- a notarization reaches a moment
abbrev pub reached : Service → ℕ → Service
reached w moment = if nat_lt (last_moment w.store.items) moment then with_store w (stores.with_frontier w.store moment) else w

-- a policy divides granules anew, from this tile on
abbrev pub divided : Service → ℕ → ℕ → ℕ → ℕ → Service
divided w tile granule k algs = with_store w (stores.with_item w.store (items.Policy tile granule k algs))

-- no session is begun over a store that is opened
abbrev pub opened : stores.Database → Service
opened store = record { store = store; sessions = λ n. None }

-- the answers to the lines of a run
abbrev pub told_in : Service → List Turn → List Answer
told_in w [] = []
told_in w (Take line now ∷ turns) = (serve w line now).answer ∷ told_in (serve w line now).world turns
told_in w (Reach moment ∷ turns) = told_in (reached w moment) turns
told_in w (Divide tile granule k algs ∷ turns) = told_in (divided w tile granule k algs) turns
told_in w (Open store ∷ turns) = told_in (opened store) turns

-- the world behind a run
abbrev pub world_after : Service → List Turn → Service
world_after w [] = w
world_after w (Take line now ∷ turns) = world_after (serve w line now).world turns
world_after w (Reach moment ∷ turns) = world_after (reached w moment) turns
world_after w (Divide tile granule k algs ∷ turns) = world_after (divided w tile granule k algs) turns
world_after w (Open store ∷ turns) = world_after (opened store) turns

-- what each session was told since its begin
abbrev pub Logs : Type 0
Logs = ℕ → List Exchange

abbrev pub no_logs : Logs
no_logs n = []

-- `begin` starts a log, and a statement on tables goes behind it
abbrev pub logged : List Exchange → Stmt → Reply → List Exchange
logged log stmts.Begin reply = []
logged log stmts.Commit reply = log
logged log stmts.Abort reply = log
logged log stmt reply = log ++ record { stmt = stmt; reply = reply } ∷ []

-- a line that its session refused was not told to it
abbrev pub noted : Logs → Line → Answer → Logs
noted logs (lines.InSession n stmt) (Replied reply) = put_at n (logged (logs n) stmt reply) logs
noted logs line answer = logs

-- this holds of each line of a run, in the world and with the logs before it
abbrev pub AtEachLine : (Service → Logs → Line → ℕ → Type 0) → Service → Logs → List Turn → Type 0
AtEachLine P w logs [] = Unit {0}
AtEachLine P w logs (Take line now ∷ turns) = P w logs line now × AtEachLine P (serve w line now).world (noted logs line (serve w line now).answer) turns
AtEachLine P w logs (Reach moment ∷ turns) = AtEachLine P (reached w moment) logs turns
AtEachLine P w logs (Divide tile granule k algs ∷ turns) = AtEachLine P (divided w tile granule k algs) logs turns
AtEachLine P w logs (Open store ∷ turns) = AtEachLine P (opened store) logs turns

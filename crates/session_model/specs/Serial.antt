-- A run is serial: each session that commits was told what its statements are told alone.
use Rattle.std.specs.Prelude.{◌≡◌, ℕ, List, Option, Some, None}
use Rattle.stmt_text.specs.declared.stmt.Stmt.TheVariants as stmts
use Rattle.stmt_text.specs.declared.line.Line.TheVariants as lines
use Rattle.stmt_text.specs.declared.line.Line.{Line}
use Rattle.statement_core.specs.Database as stores
use Rattle.statement_core.specs.declared.reply.Reply.TheVariants as replies
use Rattle.statement_core.specs.declared.reply.Reply.{Reply}
use Rattle.session_model.specs.Service.{Session, Service}
use Rattle.session_model.specs.Steps.{Answer, Replied, serve}
use Rattle.session_model.specs.Runs.{Turn, no_logs, Logs, AtEachLine}
use Rattle.session_model.specs.Alone.{Exchange, IsAlone}

-- no session is begun
abbrev pub NoneBegun : Service → Type 0
NoneBegun w = (n : ℕ) → w.sessions n ≡ None

-- `ok N`, or `ok` where nothing was to be stored
abbrev pub IsStored : Reply → Type 0
IsStored (replies.Committed number) = Unit {0}
IsStored replies.Done = Unit {0}
IsStored reply = ⊥

-- the session was told what its statements are told alone
abbrev pub WasAlone : stores.Database → List Exchange → Option Session → Type 0
WasAlone w log None = ⊥
WasAlone w log (Some s) = IsAlone w log s.pending

-- a commit that is not refused is one of a session that was told as if it had been alone, over the history before the commit
abbrev pub IsSerialAt : Service → Logs → Line → Answer → Type 0
IsSerialAt w logs (lines.InSession n stmts.Commit) (Replied reply) = IsStored reply → WasAlone w.store (logs n) (w.sessions n)
IsSerialAt w logs line answer = Unit {0}

-- each commit of a run is serial
abbrev pub Serial : Service → Logs → List Turn → Type 0
Serial = AtEachLine (λ w logs line now. IsSerialAt w logs line (serve w line now).answer)

-- Every run is serial, in the order of the commits.
abbrev pub RunsAreSerial : Type 0
RunsAreSerial = (w : Service) (turns : List Turn) → NoneBegun w → Serial w no_logs turns

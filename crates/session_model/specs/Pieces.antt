-- A run without overlap: each session that commits stands in one piece.
use Rattle.std.specs.Prelude.{◌≡◌, ℕ, map, List, [], ◌∷◌, ◌++◌, Some}
use Rattle.std.specs.List.{AllByRecursion}
use Rattle.std.specs.Option.{option_map}
use Rattle.stmt_text.specs.declared.stmt.Stmt.TheVariants as stmts
use Rattle.stmt_text.specs.declared.line.Line.TheVariants as lines
use Rattle.stmt_text.specs.declared.stmt.Stmt.{Stmt}
use Rattle.stmt_text.specs.declared.line.Line.{Line}
use Rattle.statement_core.specs.declared.reply.Reply.TheVariants as replies
use Rattle.statement_core.specs.declared.reply.Reply.{Reply}
use Rattle.session_model.specs.Service.{Session, Service}
use Rattle.session_model.specs.Steps.{Answer, Replied, Served, serve, ended}
use Rattle.session_model.specs.Alone.{alone_from, Exchange}
use Rattle.session_model.specs.Runs.{Turn, no_logs, told_in, world_after, Take, Reach, Divide, Open, reached, divided, opened, Logs, noted, AtEachLine}
use Rattle.session_model.specs.Serial.{IsStored, NoneBegun}

-- statements of a session, one after the other
abbrev pub in_turn : ℕ → ℕ → List Stmt → List Turn
in_turn n now stmts = map (λ stmt. Take (lines.InSession n stmt) now) stmts

-- a whole session
abbrev pub piece : ℕ → ℕ → List Stmt → List Turn
piece n now ss = Take (lines.InSession n stmts.Begin) now ∷ (in_turn n now ss ++ Take (lines.InSession n stmts.Commit) now ∷ [])

-- a statement that does not begin or end a session
abbrev pub IsSpoken : Stmt → Type 0
IsSpoken stmts.Begin = ⊥
IsSpoken stmts.Commit = ⊥
IsSpoken stmts.Abort = ⊥
IsSpoken stmt = Unit {0}

-- Statements alone are those of one session of the machine, while no other line comes.
pub record IsOneSession (w : Service) (n now : ℕ) (s : Session) (ss : List Stmt) : Type 0 where
  pub answers_are : told_in w (in_turn n now ss) ≡ map Replied (alone_from w.store s.pending ss).replies
  pub pending_is : option_map (λ (t : Session). t.pending) ((world_after w (in_turn n now ss)).sessions n) ≡ Some (alone_from w.store s.pending ss).pending

abbrev pub AloneIsOneSession : Type 0
AloneIsOneSession = (w : Service) (n now : ℕ) (s : Session) (ss : List Stmt) → AllByRecursion IsSpoken ss → w.sessions n ≡ Some s → IsOneSession w n now s ss

-- a session in one piece, at the place of its commit, is answered the same and stores the same
pub record IsOnePiece (w : Service) (n now : ℕ) (log : List Exchange) (next : Served) : Type 0 where
  pub answers_are : told_in (ended w n) (piece n now (map (λ t. t.stmt) log)) ≡ Replied replies.Done ∷ (map (λ t. Replied t.reply) log ++ next.answer ∷ [])
  pub store_is : (world_after (ended w n) (piece n now (map (λ t. t.stmt) log))).store ≡ next.world.store

-- a commit that is not refused is one of such a session
abbrev pub IsPieceOf : Service → Logs → Line → ℕ → Served → Answer → Type 0
IsPieceOf w logs (lines.InSession n stmts.Commit) now next (Replied reply) = IsStored reply → IsOnePiece w n now (logs n) next
IsPieceOf w logs line now next answer = Unit {0}

-- each commit of a run is one of a session that could have been in one piece
abbrev pub InPieces : Service → Logs → List Turn → Type 0
InPieces = AtEachLine (λ w logs line now. IsPieceOf w logs line now (serve w line now) (serve w line now).answer)

-- Every session that commits could have been in one piece, at its commit.
abbrev pub RunsAreInPieces : Type 0
RunsAreInPieces = (w : Service) (turns : List Turn) → NoneBegun w → InPieces w no_logs turns

-- a session that commits stands in one piece at the place of its commit
abbrev pub piece_for : ℕ → ℕ → List Exchange → Reply → List Turn
piece_for n now log (replies.Committed number) = piece n now (map (λ t. t.stmt) log)
piece_for n now log replies.Done = piece n now (map (λ t. t.stmt) log)
piece_for n now log reply = []

-- lines outside sessions stay where they are, and all other lines of sessions are left out
abbrev pub turns_for : Logs → Line → ℕ → Answer → List Turn
turns_for logs (lines.Plain stmt) now answer = Take (lines.Plain stmt) now ∷ []
turns_for logs (lines.InSession n stmts.Commit) now (Replied reply) = piece_for n now (logs n) reply
turns_for logs line now answer = []

-- the whole run so
abbrev pub serial_run : Service → Logs → List Turn → List Turn
serial_run w logs [] = []
serial_run w logs (Take line now ∷ turns) = turns_for logs line now (serve w line now).answer ++ serial_run (serve w line now).world (noted logs line (serve w line now).answer) turns
serial_run w logs (Reach moment ∷ turns) = Reach moment ∷ serial_run (reached w moment) logs turns
serial_run w logs (Divide tile granule k algs ∷ turns) = Divide tile granule k algs ∷ serial_run (divided w tile granule k algs) logs turns
serial_run w logs (Open store ∷ turns) = Open store ∷ serial_run (opened store) logs turns

-- the answers that the run gave to these lines
abbrev pub replies_for : List Exchange → Reply → List Answer
replies_for log (replies.Committed number) = Replied replies.Done ∷ (map (λ t. Replied t.reply) log ++ Replied (replies.Committed number) ∷ [])
replies_for log replies.Done = Replied replies.Done ∷ (map (λ t. Replied t.reply) log ++ Replied replies.Done ∷ [])
replies_for log reply = []

abbrev pub answers_for : Logs → Line → Answer → List Answer
answers_for logs (lines.Plain stmt) answer = answer ∷ []
answers_for logs (lines.InSession n stmts.Commit) (Replied reply) = replies_for (logs n) reply
answers_for logs line answer = []

-- and of the whole run
abbrev pub serial_answers : Service → Logs → List Turn → List Answer
serial_answers w logs [] = []
serial_answers w logs (Take line now ∷ turns) = answers_for logs line (serve w line now).answer ++ serial_answers (serve w line now).world (noted logs line (serve w line now).answer) turns
serial_answers w logs (Reach moment ∷ turns) = serial_answers (reached w moment) logs turns
serial_answers w logs (Divide tile granule k algs ∷ turns) = serial_answers (divided w tile granule k algs) logs turns
serial_answers w logs (Open store ∷ turns) = serial_answers (opened store) logs turns

-- In the serial run each line is answered as in the run, and the same is stored.
pub record IsAsSerial (w : Service) (turns : List Turn) : Type 0 where
  pub answers_are : told_in w (serial_run w no_logs turns) ≡ serial_answers w no_logs turns
  pub store_is : (world_after w (serial_run w no_logs turns)).store ≡ (world_after w turns).store

abbrev pub RunsAreAsSerial : Type 0
RunsAreAsSerial = (w : Service) (turns : List Turn) → NoneBegun w → IsAsSerial w turns

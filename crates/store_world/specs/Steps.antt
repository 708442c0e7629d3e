-- What a line does to a world, and the text of its reply.
use Rattle.std.specs.Prelude.{ℕ, ◌+◌, nat_lt, false, true, Bool, List, ◌++◌, ◌∷◌, [], length, take, codes, Option, Some, None, Result, Ok, Err}
use Rattle.std.specs.Option.{is_some}
use Rattle.history_model.specs.History.{History}
use Rattle.notary_link.specs.declared.mark.Mark.{Mark}
use Rattle.notary_link.specs.Batches.{Batch}
use Rattle.notary_link.specs.Filing.{fitting, room_in}
use Rattle.stmt_text.specs.declared.stmt.LineAlgorithm.{LineAlgorithm}
use Rattle.stmt_text.specs.declared.stmt.LineAlgorithm.TheVariants as line_algorithms
use Rattle.stmt_text.specs.declared.stmt.Stmt.{Stmt}
use Rattle.stmt_text.specs.declared.stmt.Stmt.TheVariants as stmts
use Rattle.stmt_text.specs.declared.line.Line.{Line}
use Rattle.stmt_text.specs.declared.line.Line.TheVariants as lines
use Rattle.stmt_text.specs.declared.kind.LineKind.{LineKind}
use Rattle.stmt_text.specs.declared.kind.LineKind.TheVariants as kinds
use Rattle.stmt_text.specs.Kinds.{stmt_kind, line_kind}
use Rattle.statement_core.specs.Database as statements
use Rattle.session_model.specs.Steps.{reply_of}
use Rattle.session_model.specs.Steps as session_steps
use Rattle.statement_core.specs.Replies as replies
use Rattle.validator.specs.declared.verdict.Verdict.{Verdict}
use Rattle.validator.specs.declared.fail.AuditFail.{AuditFail}
use Rattle.validator.specs.Notarizing.{Heard, Intent, intent_of}
use Rattle.validator.specs.Turning.{Turn, turn_of}
use Rattle.validator.specs.Verdicts.{mark_of}
use Rattle.byte_grammar.specs.Numbered.{numbered}
use Rattle.validator.specs.Texts.{verdict_text, turned_text, refusal_text}
use Rattle.forensic_report.specs.declared.algorithm.Algorithm.{Algorithm}
use Rattle.forensic_report.specs.declared.algorithm.Algorithm.TheVariants as algorithms
use Rattle.forensic_report.specs.declared.fail.AnalyseFail.{AnalyseFail}
use Rattle.forensic_report.specs.Analysis.{Analysis}
use Rattle.forensic_report.specs.Texts.{head_line}
use Rattle.forensic_report.specs.Fails as reports
use Rattle.audit_steps.specs.PieceSize.{piece}
use Rattle.store_world.specs.Found.{Found}
use Rattle.store_world.specs.World.{World, with_store, with_sessions, with_lists, with_batches, with_mark, with_audited, history_of}

-- the world after a line, the text of the reply, and whether it is a refusal
pub record Step : Type 0 where
  pub world : World
  pub text : List ℕ
  pub is_refused : Bool

-- a reply of one line
abbrev pub says : World → List ℕ → Step
says w words = record { world = w; text = words ++ 10 ∷ []; is_refused = false }

-- a refusal
abbrev pub refuses : World → List ℕ → Step
refuses w name = record { world = w; text = codes "refused " ++ name ++ 10 ∷ []; is_refused = true }

-- why no line goes over a store: there is none, or it is in the first format
abbrev pub why_none : Bool → List ℕ
why_none false = codes "NotAStore"
why_none true = codes "OldFormat"

-- without a store that lines go over
abbrev pub has_no_store : World → Step
has_no_store w = refuses w (why_none (is_some w.old_history))

-- ---- a statement on tables, or a line of a session

abbrev pub after_statement : World → session_steps.Served → Step
after_statement w s = record {
  world = with_sessions (with_store w s.world.store) s.world.sessions;
  text = replies.reply_text (reply_of s.answer);
  is_refused = replies.is_refusal (reply_of s.answer);
}

abbrev pub on_tables : World → Option statements.Database → Line → ℕ → Step
on_tables w None line now = has_no_store w
on_tables w (Some store) line now = after_statement w (session_steps.serve (record { store = store; sessions = w.sessions }) line now)

-- ---- a notarization

-- with a Frontier more, where one is stored
abbrev pub reached : Option ℕ → statements.Database → statements.Database
reached None w = w
reached (Some moment) w = statements.with_frontier w moment

-- what is filed under the id of the world's store
abbrev pub filed_for : World → List Batch
filed_for w = w.lists.batches w.id

-- as many batches as there is room for
abbrev pub filed : World → List Batch → World
filed w batches = with_lists w (with_batches w.id (take (fitting (room_in w.limits w.lists) batches) batches) w.lists)

-- how many tiles are sealed
abbrev pub sealed_text : ℕ → List ℕ
sealed_text tiles = numbered (codes "sealed ") tiles

-- where something refuses it, a refusal that leaves this world; else this step
abbrev pub unless : Option AuditFail → World → Step → Step
unless (Some fail) w s = refuses w (refusal_text fail)
unless None w s = s

-- what a notarization is to do, where this is heard
abbrev pub intent_in : statements.Database → ℕ → Heard → Intent
intent_in store now heard = intent_of (statements.tail_of_database store) false now store.items heard

-- its Frontier is stored, and of its batches as many are filed as there is room for
abbrev pub with_seals : World → statements.Database → Intent → World
with_seals w store i = filed (with_store w (reached i.frontier store)) i.batches

-- that is done, whether all batches are taken or not
abbrev pub carried_out : World → statements.Database → Intent → Option AuditFail → Step
carried_out w store i refusal = unless refusal (with_seals w store i) (says (with_seals w store i) (sealed_text i.sealed))

-- nothing is done where there is no store, or something speaks against it
abbrev pub notarized : World → Option statements.Database → ℕ → Heard → Option AuditFail → Step
notarized w None now heard refusal = has_no_store w
notarized w (Some store) now heard refusal = unless (intent_in store now heard).fault w (carried_out w store (intent_in store now heard) refusal)

-- ---- a policy

-- what a policy is to do, where this is heard
abbrev pub turn_in : statements.Database → Heard → ℕ → ℕ → Turn
turn_in store heard k algs = turn_of (statements.tail_of_database store) false store.items heard k algs

-- its item is stored, and it is told which era begins, and from which tile on
abbrev pub turns_world : World → statements.Database → Turn → Step
turns_world w store t = says (with_store w (statements.with_item store t.item)) (turned_text t.turned)

-- nothing is done where there is no store, or something speaks against it
abbrev pub turned : World → Option statements.Database → Heard → ℕ → ℕ → Step
turned w None heard k algs = has_no_store w
turned w (Some store) heard k algs = unless (turn_in store heard k algs).fault w (turns_world w store (turn_in store heard k algs))

-- ---- a validation

-- a mark is added, where there is one and it is taken
abbrev pub marked : World → Option Mark → Option AuditFail → List ℕ → Step
marked w None refusal text = says w text
marked w (Some mark) refusal text = unless refusal w (says (with_lists w (with_mark w.id mark w.lists)) text)

-- what was found is told and marked
abbrev pub validated : World → ℕ → Result Verdict AuditFail → Option AuditFail → Step
validated w now (Ok verdict) refusal = marked w (mark_of verdict now) refusal (verdict_text verdict)
validated w now (Err fail) refusal = refuses w (refusal_text fail)

-- ---- a piece of an audit

-- behind so many items of a history more are left than a piece reads
abbrev pub is_more_left : Option History → ℕ → Bool
is_more_left None read = false
is_more_left (Some s) read = nat_lt (read + piece) (length s.items)

-- the auditor goes on
abbrev pub has_more : World → Bool
has_more w = is_more_left (history_of w) w.audited

-- how many items are read
abbrev pub auditing_text : ℕ → List ℕ
auditing_text read = numbered (codes "auditing ") read

-- it has read a piece more
abbrev pub audits_on : World → Step
audits_on w = says (with_audited w (w.audited + piece)) (auditing_text (w.audited + piece))

-- where it doesn't go on, what was found is told and marked, and it begins anew
abbrev pub piece_audited : Bool → World → ℕ → Result Verdict AuditFail → Option AuditFail → Step
piece_audited true w now found refusal = audits_on w
piece_audited false w now found refusal = validated (with_audited w 0) now found refusal

-- ---- an analysis

-- the algorithm that a statement names
abbrev pub algorithm_of : LineAlgorithm → Algorithm
algorithm_of line_algorithms.Mono = algorithms.Mono
algorithm_of line_algorithms.Tiled = algorithms.Tiled
algorithm_of (line_algorithms.TiledExactly kappa) = algorithms.TiledExactly kappa
algorithm_of line_algorithms.A3d = algorithms.A3d

-- the report of what was found is told, with this behind its first line, and nothing changes
abbrev pub analysed : World → Algorithm → Result Analysis AnalyseFail → List ℕ → Step
analysed w algorithm (Ok a) body = record { world = w; text = head_line algorithm w.id a ++ body; is_refused = false }
analysed w algorithm (Err fail) body = refuses w (reports.refusal_text fail)

-- ---- a line

-- What a line does at these clock seconds, where this was found.
unfoldable pub step : World → Line → ℕ → Found → Step
step w (lines.Plain stmts.Notarize) now found = notarized w w.store now found.heard found.refusal
step w (lines.Plain (stmts.Policy k algs)) now found = turned w w.store found.heard k algs
step w (lines.Plain stmts.Validate) now found = validated w now found.verdict found.refusal
step w (lines.Plain stmts.Audit) now found = piece_audited (has_more w) w now found.verdict found.refusal
step w (lines.Plain (stmts.Analyse algorithm era)) now found = analysed w (algorithm_of algorithm) found.analysis found.body
step w line now found = on_tables w w.store line now

-- ---- the lines that a world takes: those that one of its parts answers

abbrev pub IsInWorld : LineKind → Type 0
IsInWorld (kinds.InWorld part) = Unit {0}
IsInWorld kind = ⊥

abbrev pub IsWorldStmt : Stmt → Type 0
IsWorldStmt stmt = IsInWorld (stmt_kind stmt)

abbrev pub IsWorldLine : Line → Type 0
IsWorldLine line = IsInWorld (line_kind line)

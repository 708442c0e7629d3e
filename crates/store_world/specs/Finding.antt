-- What may be found: by any notary, and by one that holds the lists of a world.
use Rattle.std.specs.Prelude.{◌≡◌, ℕ, ◌==◌, nat_lt, Bool, true, false, List, length, Option, Some, None, Result, Ok, Err, IfOk, IfSome}
use Rattle.std.specs.Bool.{OnFalse}
use Rattle.history_model.specs.History.{history}
use Rattle.notary_link.specs.declared.mark.Mark.{Mark}
use Rattle.notary_link.specs.Batches.{Batch}
use Rattle.notary_link.specs.Filing.{fitting, room_in}
use Rattle.notary_link.specs.Notary.{marks_in_all}
use Rattle.stmt_text.specs.declared.stmt.Stmt.TheVariants as stmts
use Rattle.stmt_text.specs.declared.line.Line.{Line}
use Rattle.stmt_text.specs.declared.line.Line.TheVariants as lines
use Rattle.statement_core.specs.Database as statements
use Rattle.validator.specs.declared.verdict.Verdict.{Verdict}
use Rattle.validator.specs.declared.fail.AuditFail.{AuditFail}
use Rattle.validator.specs.declared.fail.AuditFail.TheVariants as fails
use Rattle.validator.specs.Notarizing.{MaySpeak, heard_of}
use Rattle.validator.specs.Verdicts.{IsFoundIn, ValidatesNone, mark_of}
use Rattle.forensic_report.specs.declared.algorithm.Algorithm.{Algorithm}
use Rattle.forensic_report.specs.declared.fail.AnalyseFail.{AnalyseFail}
use Rattle.forensic_report.specs.declared.fail.AnalyseFail.TheVariants as analyses
use Rattle.forensic_report.specs.Analysis.{Analysis, IsWithoutStore}
use Rattle.forensic_report.specs.Finding.{IsAnalysisIn, IsOfAnalysis}
use Rattle.forensic_report.specs.Texts.{body_text, kept_of}
use Rattle.store_world.specs.Found.{Found}
use Rattle.store_world.specs.World.{World, history_of}
use Rattle.store_world.specs.Steps.{filed_for, intent_in, has_more, algorithm_of}

-- ---- whatever the notary tells

-- a batch is not taken as there is no room for it, or as it is out of turn
abbrev pub MayRefuse : Option AuditFail → Type 0
MayRefuse None = Unit {0}
MayRefuse (Some fails.Full) = Unit {0}
MayRefuse (Some (fails.OutOfTurn count)) = Unit {0}
MayRefuse (Some fail) = ⊥

-- a mark only as there is no room
abbrev pub MayRefuseMark : Option AuditFail → Type 0
MayRefuseMark None = Unit {0}
MayRefuseMark (Some fails.Full) = Unit {0}
MayRefuseMark (Some fail) = ⊥

-- some verdict, or a seal that is missing
abbrev pub MayJudge : Result Verdict AuditFail → Type 0
MayJudge (Ok verdict) = Unit {0}
MayJudge (Err (fails.SealMissing name)) = Unit {0}
MayJudge (Err fail) = ⊥

-- some analysis, or what refuses one by this algorithm, of this era or of all
abbrev pub MayAnalyse : Algorithm → Option ℕ → Result Analysis AnalyseFail → Type 0
MayAnalyse algorithm era (Ok a) = Unit {0}
MayAnalyse algorithm era (Err analyses.DiskFault) = ⊥
MayAnalyse algorithm era (Err analyses.NotaryFault) = ⊥
MayAnalyse algorithm era (Err analyses.NoMemory) = ⊥
MayAnalyse algorithm era (Err fail) = IsOfAnalysis algorithm era fail

-- without a history one of nothing filed, or of an altered header
abbrev pub AnalysesNone : Result Analysis AnalyseFail → Type 0
AnalysesNone (Ok a) = IsWithoutStore a
AnalysesNone (Err fail) = ⊥

-- a verdict, or why there is none; and why its mark is not taken
abbrev pub MayBeValidated : World → Found → Type 0
MayBeValidated w found = MayJudge found.verdict × MayRefuseMark found.refusal × (history_of w ≡ None → ValidatesNone found.verdict)

-- What any notary allows a line to find. While an audit goes on, nothing is looked for.
abbrev pub MayTell : World → Line → Found → Type 0
MayTell w (lines.Plain stmts.Notarize) found = MaySpeak found.heard.against × MayRefuse found.refusal
MayTell w (lines.Plain (stmts.Policy k algs)) found = MaySpeak found.heard.against
MayTell w (lines.Plain stmts.Validate) found = MayBeValidated w found
MayTell w (lines.Plain stmts.Audit) found = OnFalse (has_more w) (MayBeValidated w found)
MayTell w (lines.Plain (stmts.Analyse algorithm era)) found = MayAnalyse (algorithm_of algorithm) era found.analysis × (history_of w ≡ None → AnalysesNone found.analysis)
MayTell w line found = Unit {0}

-- ---- where it holds the lists of the world

-- all was taken, unless there was no room
abbrev pub full_unless : Bool → Option AuditFail
full_unless true = None
full_unless false = Some fails.Full

-- there is room for all of these
abbrev pub have_room : World → List Batch → Bool
have_room w batches = fitting (room_in w.limits w.lists) batches == length batches

-- it says what it holds
abbrev pub IsHeard : World → Found → statements.Database → Type 0
IsHeard w found store = found.heard ≡ heard_of (filed_for w) (history store.header store.items)

-- and where nothing speaks against the store it takes what there is room for
pub record MayFile (w : World) (now : ℕ) (found : Found) (store : statements.Database) : Type 0 where
  pub heard : IsHeard w found store
  pub refusal : (intent_in store now found.heard).fault ≡ None → found.refusal ≡ full_unless (have_room w (intent_in store now found.heard).batches)

-- it takes a mark where there is room for it
abbrev pub MayMark : World → Option Mark → Option AuditFail → Type 0
MayMark w None refusal = Unit {0}
MayMark w (Some mark) refusal = refusal ≡ full_unless (nat_lt (marks_in_all w.lists) w.limits.marks)

-- it is asked what a validation asks, and takes the mark
abbrev pub FindsVerdict : World → ℕ → Found → Type 0
FindsVerdict w now found = IsFoundIn (filed_for w) (history_of w) found.verdict × IfOk found.verdict (λ verdict. MayMark w (mark_of verdict now) found.refusal)

-- What a line may find there.
abbrev pub MayFind : World → Line → ℕ → Found → Type 0
MayFind w (lines.Plain stmts.Notarize) now found = IfSome w.store (MayFile w now found)
MayFind w (lines.Plain (stmts.Policy k algs)) now found = IfSome w.store (IsHeard w found)
MayFind w (lines.Plain stmts.Validate) now found = FindsVerdict w now found
MayFind w (lines.Plain stmts.Audit) now found = OnFalse (has_more w) (FindsVerdict w now found)
MayFind w (lines.Plain (stmts.Analyse algorithm era)) now found = IsAnalysisIn (algorithm_of algorithm) era (filed_for w) (history_of w) found.analysis
    × IfOk found.analysis (λ a. found.body ≡ body_text (algorithm_of algorithm) (kept_of w.lists w.id now) a)
MayFind w line now found = Unit {0}

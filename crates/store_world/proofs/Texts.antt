-- Only the reply that acknowledges a transaction begins as `ok` and a number.
use Rattle.std.proofs.Common.{◌≡◌, ℕ, Bool, true, false, List, [], ◌∷◌, ◌++◌, Option, Some, None, Result, Ok, Err, refl, arith}
use Rattle.std.specs.Prelude.{slice_index}
use Rattle.notary_link.specs.declared.mark.Mark.{Mark}
use Rattle.stmt_text.specs.Printing.{row_text}
use Rattle.statement_core.specs.declared.reply.Reply.{Reply}
use Rattle.statement_core.specs.declared.reply.Reply.TheVariants as replies
use Rattle.statement_core.specs.Replies.{reply_text}
use Rattle.statement_core.specs.Database as statements
use Rattle.validator.specs.declared.verdict.Verdict.{Verdict}
use Rattle.validator.specs.declared.verdict.Verdict.TheVariants as verdicts
use Rattle.validator.specs.declared.fail.AuditFail.{AuditFail}
use Rattle.validator.specs.Verdicts.{mark_of}
use Rattle.validator.specs.Texts.{verdict_text, turned_text}
use Rattle.forensic_report.specs.declared.algorithm.Algorithm.{Algorithm}
use Rattle.forensic_report.specs.declared.fail.AnalyseFail.{AnalyseFail}
use Rattle.forensic_report.specs.Analysis.{Analysis}
use Rattle.forensic_report.specs.Texts.{head_line}
use Rattle.validator.specs.Notarizing.{Heard}
use Rattle.store_world.specs.World.{World, with_audited}
use Rattle.store_world.specs.Steps.{Step, refuses, unless, intent_in, carried_out, notarized, turn_in, turns_world, turned, validated, piece_audited, analysed, marked}
use Rattle.store_world.specs.Acknowledged.{ok_text}

-- it begins as `ok` and a number
pub record SaysOk (text : List ℕ) : Type 0 where
  pub first : slice_index text 0 ≡ 111
  pub third : slice_index text 2 ≡ 32

pub says_ok : (digits : List ℕ) → SaysOk (ok_text digits)
says_ok digits = record { first = refl; third = refl }

-- ---- a reply

pub reply_ok : (r : Reply) → SaysOk (reply_text r) → (number : ℕ) × (r ≡ replies.Committed number)
unfolding reply_text row_text
reply_ok (replies.Committed number) ok = (number, refl)
reply_ok replies.Done ok = absurd (let third = ok.third in omega (arith, third))
reply_ok (replies.Found row) ok = absurd (let first = ok.first in omega (arith, first))
reply_ok replies.Missing ok = absurd (let first = ok.first in omega (arith, first))
reply_ok (replies.Scanned []) ok = absurd (let first = ok.first in omega (arith, first))
reply_ok (replies.Scanned (row ∷ rows)) ok = absurd (let first = ok.first in omega (arith, first))
reply_ok (replies.Told []) ok = absurd (let first = ok.first in omega (arith, first))
reply_ok (replies.Told (version ∷ versions)) ok = absurd (let first = ok.first in omega (arith, first))
reply_ok (replies.Over []) ok = absurd (let first = ok.first in omega (arith, first))
reply_ok (replies.Over (piece ∷ pieces)) ok = absurd (let first = ok.first in omega (arith, first))
reply_ok (replies.Refused refusal) ok = absurd (let first = ok.first in omega (arith, first))

-- ---- audits say something else

pub refusal_no : (w : World) (name : List ℕ) → SaysOk (refuses w name).text → ⊥
refusal_no w name ok = (let first = ok.first in omega (arith, first))

unless_no : (fault : Option AuditFail) (w : World) (s : Step) → (SaysOk s.text → ⊥) → SaysOk (unless fault w s).text → ⊥
unless_no (Some fail) w s never ok = (let first = ok.first in omega (arith, first))
unless_no None w s never ok = never ok

pub notarized_no : (w : World) (o : Option statements.Database) (now : ℕ) (heard : Heard) (refusal : Option AuditFail) → SaysOk (notarized w o now heard refusal).text → ⊥
notarized_no w None now heard refusal ok = (let first = ok.first in omega (arith, first))
notarized_no w (Some store) now heard refusal ok =
    let i = intent_in store now heard in
    unless_no i.fault w (carried_out w store i refusal) (unless_no refusal _ _ (λ ok. (let first = ok.first in omega (arith, first)))) ok

pub turned_no : (w : World) (o : Option statements.Database) (heard : Heard) (k algs : ℕ) → SaysOk (turned w o heard k algs).text → ⊥
unfolding turned_text
turned_no w None heard k algs ok = (let first = ok.first in omega (arith, first))
turned_no w (Some store) heard k algs ok =
    let t = turn_in store heard k algs in
    unless_no t.fault w (turns_world w store t) (λ ok. (let first = ok.first in omega (arith, first))) ok

pub verdict_no : (verdict : Verdict) → SaysOk (verdict_text verdict ++ 10 ∷ []) → ⊥
unfolding verdict_text
verdict_no verdicts.Unsealed ok = (let first = ok.first in omega (arith, first))
verdict_no (verdicts.Clean tiles) ok = (let first = ok.first in omega (arith, first))
verdict_no (verdicts.HeaderAltered tiles) ok = (let first = ok.first in omega (arith, first))
verdict_no (verdicts.Altered tiles bad) ok = (let first = ok.first in omega (arith, first))

pub validated_no : (w : World) (now : ℕ) (found : Result Verdict AuditFail) (refusal : Option AuditFail) → SaysOk (validated w now found refusal).text → ⊥
validated_no w now (Err fail) refusal ok = (let first = ok.first in omega (arith, first))
validated_no w now (Ok verdict) refusal ok = by (mark_of verdict now) ok
  where
    by : (m : Option Mark) → SaysOk (marked w m refusal (verdict_text verdict)).text → ⊥
    by None ok = verdict_no verdict ok
    by (Some mark) ok = unless_no refusal w _ (verdict_no verdict) ok

pub audited_no : (b : Bool) (w : World) (now : ℕ) (found : Result Verdict AuditFail) (refusal : Option AuditFail) → SaysOk (piece_audited b w now found refusal).text → ⊥
audited_no true w now found refusal ok = (let first = ok.first in omega (arith, first))
audited_no false w now found refusal ok = validated_no (with_audited w 0) now found refusal ok

pub head_no : (algorithm : Algorithm) (id : ℕ) (a : Analysis) (rest : List ℕ) → SaysOk (head_line algorithm id a ++ rest) → ⊥
unfolding head_line
head_no algorithm id a rest ok = (let first = ok.first in omega (arith, first))

pub analysed_no : (w : World) (algorithm : Algorithm) (found : Result Analysis AnalyseFail) (body : List ℕ) → SaysOk (analysed w algorithm found body).text → ⊥
analysed_no w algorithm (Ok a) body ok = head_no algorithm w.id a body ok
analysed_no w algorithm (Err fail) body ok = (let first = ok.first in omega (arith, first))

-- What is told of a file, behind the answers.
use Rattle.std.proofs.Common.{◌≡◌, ℕ, true, false, List, refl, sym, ap, ◌∙◌, Option, Result, Ok, Err}
use Rattle.std.specs.Prelude.{◌==◌}
use Rattle.std.proofs.lemmas.Bool.{eq-eqb}
use Rattle.notary_link.specs.declared.name.Name.{Name}
use Rattle.notary_link.specs.Batches.{Batch}
use Rattle.digest_model.specs.Layout.{Layout}
use Rattle.evidence_file.specs.declared.entry.Entry.{Entry}
use Rattle.evidence_file.specs.declared.evidence.Evidence.{Evidence}
use Rattle.evidence_examine.specs.declared.examined.Examined.{Examined}
use Rattle.evidence_examine.specs.declared.examined.Examined.TheVariants.{OtherHeader, Lines}
use Rattle.evidence_examine.specs.declared.fail.ExamineFail.{ExamineFail}
use Rattle.evidence_examine.specs.declared.fail.ExamineFail.TheVariants as fails
use Rattle.evidence_examine.specs.declared.judged.Judged.{Judged}
use Rattle.evidence_examine.specs.Places.{layout_of, has_filed_places}
use Rattle.evidence_examine.specs.Texts.{lines_of}
use Rattle.evidence_examine.specs.Examining.{first_missing, unless_missing, lists_examined, file_examined, IsToldOf, IsOfFile}
use Rattle.evidence_examine.specs.Judging.{judged_text}
use Rattle.evidence_examine.specs.Asking.{AreJudged, IsFirstMissing}
use Rattle.evidence_examine.proofs.Written.{text_is}

-- ---- the lines

-- the text of the answers is that of the entries
pub lines_told : (batches : List Batch) (l : Layout) (es : List Entry) (js : List Judged) (text : List ℕ) → text ≡ judged_text js → AreJudged batches l es js → IsToldOf (lists_examined batches l es) (Ok (Lines text))
lines_told batches l es js text is so =
    ap (λ (t : List ℕ). let r : Result Examined ExamineFail = Ok (Lines t) in r) (is ∙ ap judged_text so.0 ∙ text_is batches l es)
    ∙ sym (ap (λ (m : Option Name). unless_missing m (lines_of batches l es)) so.1)

-- a refusal of asking is that of the entries
pub refusal_told : (batches : List Batch) (e : Evidence) (fail : ExamineFail) → IsOfFile e fail → IsFirstMissing (first_missing batches (layout_of e) e.entries) fail → IsToldOf (lists_examined batches (layout_of e) e.entries) (Err fail)
refusal_told batches e fails.NotEvidence of so = absurd of
refusal_told batches e fails.NotaryFault of so = tt
refusal_told batches e (fails.SealMissing name) of so = sym (ap (λ (m : Option Name). unless_missing m (lines_of batches (layout_of e) e.entries)) so)
refusal_told batches e fails.NoMemory of so = tt

-- ---- a file

pub same_id : (a : ℕ) → (a == a) ≡ true
same_id a = eq-eqb a a refl

-- where its places are as filed, its lists decide
pub right_told : (batches : List Batch) (e : Evidence) (result : Result Examined ExamineFail) → true ≡ has_filed_places batches e → IsToldOf (lists_examined batches (layout_of e) e.entries) result
    → IsToldOf (file_examined e.header.id batches e) result
right_told batches e result right told = rw (same_id e.header.id, ← right) told

pub wrong_told : (batches : List Batch) (e : Evidence) → false ≡ has_filed_places batches e → IsToldOf (file_examined e.header.id batches e) (Ok OtherHeader)
wrong_told batches e wrong = rw (same_id e.header.id, ← wrong) refl

-- one of another id is told without a question
pub elsewhere_told : (id : ℕ) (batches : List Batch) (e : Evidence) → (e.header.id == id) ≡ false → IsToldOf (file_examined id batches e) (Ok OtherHeader)
elsewhere_told id batches e other = rw other refl

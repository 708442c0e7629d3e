-- What asking for lists and entries answers.
use Rattle.std.specs.Prelude.{◌≡◌, ℕ, false, List, map, Option, Some, None, Result, Ok, Err}
use Rattle.notary_link.specs.declared.answer.Answer.TheVariants.{Absent}
use Rattle.notary_link.specs.declared.name.Name.{Name}
use Rattle.notary_link.specs.Batches.{Batch}
use Rattle.digest_model.specs.Layout.{Layout}
use Rattle.audit_model.specs.Asked.{is_absent}
use Rattle.evidence_file.specs.declared.entry.Entry.{Entry}
use Rattle.evidence_file.specs.Shown.{list_answer}
use Rattle.evidence_examine.specs.declared.fail.ExamineFail.{ExamineFail}
use Rattle.evidence_examine.specs.declared.fail.ExamineFail.TheVariants.{NotEvidence, NotaryFault, SealMissing, NoMemory}
use Rattle.evidence_examine.specs.declared.judged.Listed.{Listed}
use Rattle.evidence_examine.specs.declared.judged.Judged.{Judged}
use Rattle.evidence_examine.specs.Examining.{first_missing}
use Rattle.evidence_examine.specs.Judging.{listed, judged_at, judged}

-- asking under one name is refused by no other cause
abbrev pub IsOfAsking : Name → ExamineFail → Type 0
IsOfAsking name NotEvidence = ⊥
IsOfAsking name NotaryFault = Unit {0}
IsOfAsking name (SealMissing missing) = missing ≡ name
IsOfAsking name NoMemory = Unit {0}

-- a list: its answer, or the seal is missing
abbrev pub IsListed : List Batch → Name → ℕ → List (List ℕ) → Result Listed ExamineFail → Type 0
IsListed batches name g spelled (Ok l) = (l ≡ listed batches name g spelled) × (is_absent (list_answer batches name g spelled) ≡ false)
IsListed batches name g spelled (Err (SealMissing missing)) = list_answer batches name g spelled ≡ Absent
IsListed batches name g spelled (Err fail) = Unit {0}

-- a second list, where there is one
abbrev pub IsSecond : List Batch → Name → ℕ → Option (List (List ℕ)) → Result (Option Listed) ExamineFail → Type 0
IsSecond batches name g None r = (r ≡ Ok None)
IsSecond batches name g (Some spelled) (Ok None) = ⊥
IsSecond batches name g (Some spelled) (Ok (Some l)) = l ≡ listed batches name g spelled
IsSecond batches name g (Some spelled) (Err (SealMissing missing)) = list_answer batches name g spelled ≡ Absent
IsSecond batches name g (Some spelled) (Err fail) = Unit {0}

-- an entry
abbrev pub IsJudged : List Batch → Name → Entry → Result Judged ExamineFail → Type 0
IsJudged batches name e (Ok j) = (j ≡ judged_at batches name e) × (is_absent (list_answer batches name e.granule e.shown) ≡ false)
IsJudged batches name e (Err (SealMissing missing)) = list_answer batches name e.granule e.shown ≡ Absent
IsJudged batches name e (Err fail) = Unit {0}

-- entries: their answers, where no leaf is missing
abbrev pub AreJudged : List Batch → Layout → List Entry → List Judged → Type 0
AreJudged batches l es js = (js ≡ map (judged batches l) es) × (first_missing batches l es ≡ None)

-- else the first one that is
abbrev pub IsFirstMissing : Option Name → ExamineFail → Type 0
IsFirstMissing missing (SealMissing name) = missing ≡ Some name
IsFirstMissing missing fail = Unit {0}

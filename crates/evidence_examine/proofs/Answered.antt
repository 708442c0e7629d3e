-- What is answered for the lists of entries, one after another.
use Rattle.std.proofs.Common.{◌≡◌, ℕ, ◌+◌, ◌<◌, ◌≤◌, Bool, true, false, cond, List, [], ◌∷◌, ◌++◌, length, get_or, drop, map, refl, sym, ap, ◌∙◌, Option, Some, None, Ok, Err, append_assoc}
use Rattle.std.specs.List.{find}
use Rattle.std.specs.Option.{option_map}
use Rattle.std.proofs.lemmas.List.{append-nil, drop_more, drop_all}
use Rattle.notary_link.specs.declared.seal.Seal.{Seal}
use Rattle.notary_link.specs.declared.answer.Answer.{Answer}
use Rattle.notary_link.specs.declared.answer.Answer.TheVariants.{Absent}
use Rattle.notary_link.specs.declared.name.Name.{Name}
use Rattle.notary_link.specs.Batches.{Batch, filed, answer_by, answer}
use Rattle.digest_model.specs.Layout.{Layout}
use Rattle.digest_model.specs.Digests.{granule_over}
use Rattle.audit_model.specs.Asked.{is_absent}
use Rattle.evidence_file.specs.declared.entry.Entry.{Entry}
use Rattle.evidence_file.specs.Shown.{list_answer, leaf_name}
use Rattle.evidence_examine.specs.declared.fail.ExamineFail.{ExamineFail}
use Rattle.evidence_examine.specs.declared.fail.ExamineFail.TheVariants as fails
use Rattle.evidence_examine.specs.declared.judged.Listed.{Listed}
use Rattle.evidence_examine.specs.declared.judged.Judged.{Judged}
use Rattle.evidence_examine.specs.Examining.{missing_at, first_missing}
use Rattle.evidence_examine.specs.Judging.{listed, judged_at, judged}
use Rattle.evidence_examine.specs.Asking.{IsOfAsking, IsListed, IsSecond, IsJudged, AreJudged, IsFirstMissing}
use Rattle.evidence_examine.proofs.EraClashes.{never_absent}

-- ---- one name

-- whether a name is filed does not rest on the digest that is asked for
absent_by : (o : Option Seal) (x y : List ℕ) → answer_by o x ≡ Absent → answer_by o y ≡ Absent
absent_by None x y e = refl
absent_by (Some seal) x y e = absurd (never_absent x seal.digest e)

absent_any : (batches : List Batch) (name : Name) (x y : List ℕ) → answer batches name x ≡ Absent → answer batches name y ≡ Absent
unfolding answer
absent_any batches name x y e = absent_by (filed batches name) x y e

-- ---- the lists of an entry

second_is : (batches : List Batch) (name : Name) (g : ℕ) (s : Option (List (List ℕ))) (o : Option Listed) → IsSecond batches name g s (Ok o) → o ≡ option_map (listed batches name g) s
second_is batches name g None o is = cc
second_is batches name g (Some ts) None is = absurd is
second_is batches name g (Some ts) (Some l) is = ap (λ (x : Listed). Some x) is

pub entry_judged : (batches : List Batch) (name : Name) (e : Entry) (l : Listed) (o : Option Listed) → IsListed batches name e.granule e.shown (Ok l) → IsSecond batches name e.granule e.original (Ok o)
    → IsJudged batches name e (Ok (record { granule = e.granule; shown = l; original = o }))
entry_judged batches name e l o first second = (
  ap (λ (x : Listed). let j : Judged = record { granule = e.granule; shown = x; original = o } in j) first.0
      ∙ ap (λ (x : Option Listed). let j : Judged = record { granule = e.granule; shown = listed batches name e.granule e.shown; original = x } in j) (second_is batches name e.granule e.original o second),
  first.1,
)

pub first_refused : (batches : List Batch) (name : Name) (e : Entry) (fail : ExamineFail) → IsListed batches name e.granule e.shown (Err fail) → IsJudged batches name e (Err fail)
first_refused batches name e fails.NotEvidence is = tt
first_refused batches name e fails.NotaryFault is = tt
first_refused batches name e (fails.SealMissing missing) is = is
first_refused batches name e fails.NoMemory is = tt

second_missing : (batches : List Batch) (name missing : Name) (g : ℕ) (ts : List (List ℕ)) (s : Option (List (List ℕ))) → IsSecond batches name g s (Err (fails.SealMissing missing)) → list_answer batches name g ts ≡ Absent
second_missing batches name missing g ts None is = absurd cc
second_missing batches name missing g ts (Some spelled) is = absent_any batches name (granule_over g spelled) (granule_over g ts) is

pub second_refused : (batches : List Batch) (name : Name) (e : Entry) (fail : ExamineFail) → IsSecond batches name e.granule e.original (Err fail) → IsJudged batches name e (Err fail)
second_refused batches name e fails.NotEvidence is = tt
second_refused batches name e fails.NotaryFault is = tt
second_refused batches name e (fails.SealMissing missing) is = second_missing batches name missing e.granule e.shown e.original is
second_refused batches name e fails.NoMemory is = tt

-- ---- entries

-- of the first ones: none of them is missing, and these are their answers
pub record AreSoFar (batches : List Batch) (l : Layout) (es : List Entry) (i : ℕ) (js : List Judged) : Type 0 where
  pub missing : first_missing batches l es ≡ first_missing batches l (drop i es)
  pub answers : js ++ map (judged batches l) (drop i es) ≡ map (judged batches l) es

pub none_so_far : (batches : List Batch) (l : Layout) (es : List Entry) → AreSoFar batches l es 0 []
none_so_far batches l es = record { missing = refl; answers = refl }

at : (es : List Entry) (i : ℕ) (e : Entry) → i < length es → e ≡ get_or es i e → drop i es ≡ e ∷ drop (i + 1) es
at es i e within is = drop_more es i e within ∙ ap (λ (x : Entry). x ∷ drop (i + 1) es) (sym is)

is_absent_is : (a : Answer) → a ≡ Absent → is_absent a ≡ true
is_absent_is a is = ap is_absent is

first_passes : (batches : List Batch) (l : Layout) (e : Entry) (es : List Entry) → missing_at batches l e ≡ false → first_missing batches l (e ∷ es) ≡ first_missing batches l es
unfolding first_missing
first_passes batches l e es passes = ap (λ (b : Bool). option_map (λ (x : Entry). leaf_name l x.granule) (cond b (Some e) (find (missing_at batches l) es))) passes

first_stops : (batches : List Batch) (l : Layout) (e : Entry) (es : List Entry) → missing_at batches l e ≡ true → first_missing batches l (e ∷ es) ≡ Some (leaf_name l e.granule)
unfolding first_missing
first_stops batches l e es stops = ap (λ (b : Bool). option_map (λ (x : Entry). leaf_name l x.granule) (cond b (Some e) (find (missing_at batches l) es))) stops

-- under the name of its leaf
module _ (l : Layout) (es : List Entry) (i : ℕ) (e : Entry) (name : Name) (within : i < length es) (is : e ≡ get_or es i e) (own : name ≡ leaf_name l e.granule) where
  pub one_more : (batches : List Batch) (js next : List Judged) (j : Judged) → next ≡ js ++ j ∷ [] → AreSoFar batches l es i js → IsJudged batches name e (Ok j) → AreSoFar batches l es (i + 1) next
  one_more batches js next j pushed so one =
      let rest = drop (i + 1) es in
      let passes : missing_at batches l e ≡ false = ap (λ (n : Name). is_absent (list_answer batches n e.granule e.shown)) (sym own) ∙ one.1 in
      let judged_so : j ≡ judged batches l e = one.0 ∙ ap (λ (n : Name). judged_at batches n e) own in record {
        missing = so.missing ∙ ap (first_missing batches l) (at es i e within is) ∙ first_passes batches l e (drop (i + 1) es) passes;
        answers = ap (λ (xs : List Judged). xs ++ map (judged batches l) (drop (i + 1) es)) pushed
            ∙ append_assoc js (j ∷ []) (map (judged batches l) (drop (i + 1) es))
            ∙ ap (λ (x : Judged). js ++ x ∷ map (judged batches l) (drop (i + 1) es)) judged_so
            ∙ ap (λ (xs : List Entry). js ++ map (judged batches l) xs) (sym (at es i e within is))
            ∙ so.answers;
      }

  pub stopped : (batches : List Batch) (js : List Judged) (fail : ExamineFail) → IsOfAsking name fail → AreSoFar batches l es i js → IsJudged batches name e (Err fail) → IsFirstMissing (first_missing batches l es) fail
  stopped batches js fails.NotEvidence fits so one = absurd fits
  stopped batches js fails.NotaryFault fits so one = tt
  stopped batches js (fails.SealMissing missing) fits so one =
      let stops : missing_at batches l e ≡ true = ap (λ (n : Name). is_absent (list_answer batches n e.granule e.shown)) (sym own) ∙ is_absent_is (list_answer batches name e.granule e.shown) one in
      so.missing ∙ ap (first_missing batches l) (at es i e within is) ∙ first_stops batches l e (drop (i + 1) es) stops ∙ ap (λ (n : Name). Some n) (sym own ∙ sym fits)
  stopped batches js fails.NoMemory fits so one = tt

pub all_judged : (batches : List Batch) (l : Layout) (es : List Entry) (i : ℕ) (js : List Judged) → length es ≤ i → AreSoFar batches l es i js → AreJudged batches l es js
unfolding first_missing
all_judged batches l es i js past so = (
  sym (append-nil js) ∙ ap (λ (xs : List Entry). js ++ map (judged batches l) xs) (sym (drop_all i es past)) ∙ so.answers,
  so.missing ∙ ap (first_missing batches l) (drop_all i es past),
)

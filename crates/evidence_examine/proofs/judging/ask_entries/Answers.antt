use Rattle.std.proofs.Common.{rules, ◌≡◌, ◌+◌, ◌<◌, ◌≤◌, ◌∙◌, List, length, get_or, Result, Ok, Err, refl, ap, subst, arith}
use Rattle.outside_words.proofs.Told.{told_same, told_map}
use Rattle.notary_link.specs.Batches.{Batch}
use Rattle.notary_link.specs.Notary.{Lists}
use Rattle.notary_link.proofs.Frame.{goes_on_same, goes_on_then}
use Rattle.notary_link.proofs.Unchanged.{unchanged_same, unchanged_then}
use Rattle.notary_link.proofs.Reading.{told_behind}
use Rattle.evidence_file.specs.declared.entry.Entry.{Entry}
use Rattle.evidence_file.specs.Shown.{leaf_name}
use Rattle.evidence_examine.specs.declared.fail.ExamineFail.{ExamineFail}
use Rattle.evidence_examine.specs.declared.fail.ExamineFail.TheVariants.{NotaryFault, NoMemory}
use Rattle.evidence_examine.specs.declared.judged.Judged.{Judged}
use Rattle.evidence_examine.specs.Places.{places_of, layout_of}
use Rattle.evidence_examine.specs.Examining.{first_missing, list_count}
use Rattle.evidence_examine.specs.Judging.{txn_count}
use Rattle.evidence_examine.specs.Asking.{IsJudged, IsFirstMissing}
use Rattle.evidence_examine.proofs.Answered.{AreSoFar, none_so_far, one_more, stopped, all_judged}
use Rattle.evidence_examine.proofs.Entries.{low, has_lengths, refused, left, at_most}
use Rattle.evidence_examine.proofs.judging.ask_entries.Goals as goal

pub leaf_name-name-requires : goal.leaf_name-name-requires
leaf_name-name-requires g c =
    let e = c.args.evidence.now in
    let i = c.loop-entry.entry-index in
    let entry = c.entry-item.result in
    let items = c.as_slice-entry-items.ensures.value in
    let within : i < length e.entries = subst (λ (xs : List Entry). i < length xs) items c.loop-entry-test.true in
    let is : entry ≡ get_or e.entries i entry = subst (λ (xs : List Entry). entry ≡ get_or xs i entry) items c.entry-item.is in
    record { within = omega (arith, low e i entry within is c.requires.fits) }

pub ask_entry-requires : goal.ask_entry-requires
ask_entry-requires g c =
    let e = c.args.evidence.now in
    let i = c.loop-entry.entry-index in
    let entry = c.entry-item.result in
    let items = c.as_slice-entry-items.ensures.value in
    let within : i < length e.entries = subst (λ (xs : List Entry). i < length xs) items c.loop-entry-test.true in
    let is : entry ≡ get_or e.entries i entry = subst (λ (xs : List Entry). entry ≡ get_or xs i entry) items c.entry-item.is in
    record { short = has_lengths e i entry within is c.requires.fits }

pub loop-entry-init : goal.loop-entry-init
loop-entry-init g c =
    let s = g.N.Notary.state c.args.notary.now in
    let e = c.args.evidence.now in record {
      told = told_same s.lists s.lists (λ (before after : Lists). AreSoFar (before.batches c.args.id) (layout_of e) e.entries 0 c.new-all.result.items) refl
          (λ lists. rw c.new-all.ensures.items (none_so_far (lists.batches c.args.id) (layout_of e) e.entries));
      steps = omega arith;
      same = unchanged_same s;
      few = omega arith;
      frame = goes_on_same s;
      counted = λ shows. refl;
    }

pub loop-entry-preserved : goal.loop-entry-preserved
loop-entry-preserved g c =
    let e = c.args.evidence.now in
    let l = layout_of e in
    let i = c.loop-entry.entry-index in
    let entry = c.entry-item.result in
    let items = c.as_slice-entry-items.ensures.value in
    let within : i < length e.entries = subst (λ (xs : List Entry). i < length xs) items c.loop-entry-test.true in
    let is : entry ≡ get_or e.entries i entry = subst (λ (xs : List Entry). entry ≡ get_or xs i entry) items c.entry-item.is in
    let on = c.loop-entry.invariant in
    let got = c.in_ok-judged.ensures in
    let name = c.leaf_name-name.result in
    let own : name ≡ leaf_name l entry.granule = c.leaf_name-name.ensures.value (places_of e) c.requires.eras in
    let judged = c.in_ok-judged.judged in record {
      told = told_behind c.args.id (λ (batches : List Batch). AreSoFar batches l e.entries i c.loop-entry.all.items) (λ (batches : List Batch). IsJudged batches name entry (Ok judged)) (λ (batches : List Batch). AreSoFar batches l e.entries (i + 1) c.add.new.all.items) _ _ _
          got.frame.told.untold on.same.lists on.told got.told
          (λ batches so one. one_more l e.entries i entry name within is own batches c.loop-entry.all.items c.add.new.all.items judged c.in_ok-add.ensures.ok so one);
      steps = left e i entry within is txn_count _ _ _ on.steps got.steps;
      same = unchanged_then _ _ _ on.frame got.frame on.same got.same;
      few = left e i entry within is list_count _ _ _ on.few got.asked;
      frame = goes_on_then _ _ _ on.frame got.frame;
      counted = λ shows. got.counted (on.frame.shows ∙ shows) ∙ on.counted shows;
    }

pub returns-in_err-judged : goal.returns-in_err-judged
returns-in_err-judged g c =
    let e = c.args.evidence.now in
    let l = layout_of e in
    let i = c.loop-entry.entry-index in
    let entry = c.entry-item.result in
    let items = c.as_slice-entry-items.ensures.value in
    let within : i < length e.entries = subst (λ (xs : List Entry). i < length xs) items c.loop-entry-test.true in
    let is : entry ≡ get_or e.entries i entry = subst (λ (xs : List Entry). entry ≡ get_or xs i entry) items c.entry-item.is in
    let on = c.loop-entry.invariant in
    let got = c.in_err-judged.ensures in
    let fail = c.in_err-judged.field-0.0 in
    let same : c.from_residual.result ≡ Err fail = search rules in
    let name = c.leaf_name-name.result in
    let own : name ≡ leaf_name l entry.granule = c.leaf_name-name.ensures.value (places_of e) c.requires.eras in
    rw same (record {
      told = told_behind c.args.id (λ (batches : List Batch). AreSoFar batches l e.entries i c.loop-entry.all.items) (λ (batches : List Batch). IsJudged batches name entry (Err fail)) (λ (batches : List Batch). Unit {0} × IsFirstMissing (first_missing batches l e.entries) fail) _ _ _
          got.frame.told.untold on.same.lists on.told got.told
          (λ batches so one. (tt, stopped l e.entries i entry name within is own batches c.loop-entry.all.items fail got.only so one));
      only = refused e i entry within is name fail own got.only;
      steps = at_most txn_count e.entries (i + 1) _ _ (left e i entry within is txn_count _ _ _ on.steps got.steps);
      same = unchanged_then _ _ _ on.frame got.frame on.same got.same;
      asked = at_most list_count e.entries (i + 1) _ _ (left e i entry within is list_count _ _ _ on.few got.asked);
      frame = goes_on_then _ _ _ on.frame got.frame;
      cause = λ fault.
          (let failed : fail ≡ NotaryFault = cc in
          let rose = got.cause (ap (λ (x : ExamineFail). let r : Result Judged ExamineFail = Err x in r) failed) in
          omega (arith, rose, on.frame.faults));
      counted = λ shows tells. got.counted (on.frame.shows ∙ shows) tells ∙ on.counted shows;
    })

pub returns-in_err-add : goal.returns-in_err-add
returns-in_err-add g c =
    let e = c.args.evidence.now in
    let i = c.loop-entry.entry-index in
    let entry = c.entry-item.result in
    let items = c.as_slice-entry-items.ensures.value in
    let within : i < length e.entries = subst (λ (xs : List Entry). i < length xs) items c.loop-entry-test.true in
    let is : entry ≡ get_or e.entries i entry = subst (λ (xs : List Entry). entry ≡ get_or xs i entry) items c.entry-item.is in
    let on = c.loop-entry.invariant in
    let got = c.in_ok-judged.ensures in
    let same : c.from_residual-in_err-add.result ≡ Err NoMemory = search rules in
    rw same (record {
      told = told_map _ _ _ (λ (before after : Lists). Unit {0} × Unit {0}) (goes_on_then _ _ _ on.frame got.frame).lists (λ (before after : Lists) grows. (tt, tt));
      only = tt;
      steps = at_most txn_count e.entries (i + 1) _ _ (left e i entry within is txn_count _ _ _ on.steps got.steps);
      same = unchanged_then _ _ _ on.frame got.frame on.same got.same;
      asked = at_most list_count e.entries (i + 1) _ _ (left e i entry within is list_count _ _ _ on.few got.asked);
      frame = goes_on_then _ _ _ on.frame got.frame;
      cause = λ fault. absurd cc;
      counted = λ shows tells. absurd cc;
    })

pub returns : goal.returns
returns g c =
    let e = c.args.evidence.now in
    let l = layout_of e in
    let i = c.loop-entry.entry-index in
    let on = c.loop-entry.invariant in
    let past : length e.entries ≤ i = subst (λ (xs : List Entry). length xs ≤ i) c.as_slice-entry-items.ensures.value c.loop-entry-test.false in record {
      told = told_map _ _ (λ (before after : Lists). AreSoFar (before.batches c.args.id) l e.entries i c.loop-entry.all.items) _ on.told
          (λ before after so. (all_judged (before.batches c.args.id) l e.entries i c.loop-entry.all.items past so, tt));
      only = tt;
      steps = at_most txn_count e.entries i _ _ on.steps;
      same = on.same;
      asked = at_most list_count e.entries i _ _ on.few;
      frame = on.frame;
      cause = λ fault. absurd cc;
      counted = on.counted;
    }

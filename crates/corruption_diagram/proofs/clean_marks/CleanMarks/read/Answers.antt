use Rattle.std.proofs.Common.{[], List, refl, ◌∙◌, rules, arith}
use Rattle.outside_words.proofs.Told.{told_same}
use Rattle.notary_link.specs.declared.mark.Mark.{Mark}
use Rattle.notary_link.specs.Batches.{Batch}
use Rattle.notary_link.proofs.Frame.{goes_on_same, goes_on_then}
use Rattle.notary_link.proofs.Unchanged.{unchanged_same, unchanged_then}
use Rattle.corruption_diagram.specs.CleanMarks.{StandFor}
use Rattle.corruption_diagram.proofs.Lasts.{none_stand}
use Rattle.corruption_diagram.proofs.Reading.{told_mark, told_end, told_full}
use Rattle.corruption_diagram.proofs.clean_marks.CleanMarks.read.Goals as goal

pub loop-place-init : goal.loop-place-init
loop-place-init g c =
    let s = g.N.Notary.state c.args.notary.now in record {
      narrow = search rules;
      told = told_same s.lists s.lists (λ before after. StandFor [] c.new-marks.result.items) refl (λ lists. none_stand c.new-marks.result.items c.new-marks.ensures.items);
      same = unchanged_same s;
      asked = refl;
      frame = goes_on_same s;
      counted = λ shows. refl;
    }

pub loop-place-preserved : goal.loop-place-preserved
loop-place-preserved g c =
    let S = g.N.Notary.state in
    let on = c.loop-place.invariant in
    let got = c.in_ok-mark.ensures in
    let more = c.in_ok-add-in-Some.ensures.value in record {
      narrow = c.in_ok-add-in-Some.ensures.narrow;
      told = told_mark c.args.id c.loop-place.place (λ (batches : List Batch) (marks : List Mark). StandFor marks c.loop-place.marks.items) c.in-Some.mark (λ (batches : List Batch) (marks : List Mark). StandFor marks c.add.new.clean.items) _ _ _
          got.frame.told.untold on.same.lists on.told (rw c.in-Some.is at got.value) (λ batches marks stand. more marks stand);
      same = unchanged_then _ _ _ on.frame got.frame on.same got.same;
      asked = got.asked ∙ on.asked;
      frame = goes_on_then _ _ _ on.frame got.frame;
      counted = λ shows. got.counted (on.frame.shows ∙ shows) ∙ on.counted shows;
    }

pub returns-in-None-clause-value : goal.returns-in-None-clause-value
returns-in-None-clause-value g c =
    let on = c.loop-place.invariant in
    let got = c.in_ok-mark.ensures in
    told_end c.args.id c.loop-place.place (λ (batches : List Batch) (marks : List Mark). StandFor marks c.loop-place.marks.items) (λ (batches : List Batch) (marks : List Mark). StandFor marks c.loop-place.marks.items) _ _ _
    got.frame.told.untold on.same.lists on.told (rw c.in-None.is at got.value) (λ batches marks stand. stand)

pub returns-clause-value : goal.returns-clause-value
returns-clause-value g c =
    told_full c.args.id c.loop-place.place (λ (batches : List Batch) (marks : List Mark). StandFor marks c.loop-place.marks.items) (λ (batches : List Batch) (marks : List Mark). StandFor marks c.loop-place.marks.items) _ _
    (g.met.N.Notary.few_marks c.args.notary.now) c.ranges.id.fits (omega arith) c.loop-place.invariant.told (λ batches marks stand. stand)

pub returns-in_err-mark-clause-same : goal.returns-in_err-mark-clause-same
returns-in_err-mark-clause-same g c = unchanged_then _ _ _ c.loop-place.invariant.frame c.in_err-mark.ensures.frame c.loop-place.invariant.same c.in_err-mark.ensures.same

pub returns-in_err-mark-clause-frame : goal.returns-in_err-mark-clause-frame
returns-in_err-mark-clause-frame g c = goes_on_then _ _ _ c.loop-place.invariant.frame c.in_err-mark.ensures.frame

pub returns-in_err-add-in-Some-clause-same : goal.returns-in_err-add-in-Some-clause-same
returns-in_err-add-in-Some-clause-same g c = unchanged_then _ _ _ c.loop-place.invariant.frame c.in_ok-mark.ensures.frame c.loop-place.invariant.same c.in_ok-mark.ensures.same

pub returns-in_err-add-in-Some-clause-frame : goal.returns-in_err-add-in-Some-clause-frame
returns-in_err-add-in-Some-clause-frame g c = goes_on_then _ _ _ c.loop-place.invariant.frame c.in_ok-mark.ensures.frame

pub returns-in-None-clause-same : goal.returns-in-None-clause-same
returns-in-None-clause-same g c = unchanged_then _ _ _ c.loop-place.invariant.frame c.in_ok-mark.ensures.frame c.loop-place.invariant.same c.in_ok-mark.ensures.same

pub returns-in-None-clause-frame : goal.returns-in-None-clause-frame
returns-in-None-clause-frame g c = goes_on_then _ _ _ c.loop-place.invariant.frame c.in_ok-mark.ensures.frame

pub returns-in-None-clause-counted : goal.returns-in-None-clause-counted
returns-in-None-clause-counted g c = λ shows. c.in_ok-mark.ensures.counted (c.loop-place.invariant.frame.shows ∙ shows) ∙ c.loop-place.invariant.counted shows

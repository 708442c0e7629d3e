use Rattle.std.proofs.Common.{◌≡◌, List, Result, Ok, ap, ◌∙◌, arith}
use Rattle.notary_link.specs.declared.fail.AskFail.{AskFail}
use Rattle.notary_link.specs.declared.mark.Mark.{Mark}
use Rattle.notary_link.specs.Batches.{Batch}
use Rattle.notary_link.proofs.Frame.{goes_on_then}
use Rattle.notary_link.proofs.Unchanged.{unchanged_then}
use Rattle.corruption_diagram.specs.declared.span.Span.{Span}
use Rattle.corruption_diagram.specs.Spans.{when_first_changed}
use Rattle.corruption_diagram.proofs.Showing.{ShowsFirst, shows_span}
use Rattle.corruption_diagram.proofs.Reading.{told_mark, told_full}
use Rattle.corruption_diagram.proofs.spans.first_when.Goals as goal

pub loop-place-preserved : goal.loop-place-preserved
loop-place-preserved g c =
    let on = c.loop-place.invariant in
    let got = c.in_ok-mark.ensures in record {
      told = told_mark c.args.id c.loop-place.place (ShowsFirst c.args.tile c.unwrap_or-sealed.result c.loop-place.shown) c.in-Some.mark (ShowsFirst c.args.tile c.unwrap_or-sealed.result c.shown_with-shown.result) _ _ _
          got.frame.told.untold on.same.lists on.told (rw c.in-Some.is at got.value) (λ batches marks is. record { batch = is.batch; marks_show = c.shown_with-shown.ensures.value marks is.marks_show });
      same = unchanged_then _ _ _ on.frame got.frame on.same got.same;
      asked = got.asked ∙ on.asked;
      frame = goes_on_then _ _ _ on.frame got.frame;
      counted = λ shows. got.counted (on.frame.shows ∙ shows) ∙ on.counted shows;
    }

answered : Span → Result Span AskFail
answered span = Ok span

pub returns-clause-value : goal.returns-clause-value
unfolding answered
returns-clause-value g c =
    told_full c.args.id c.loop-place.place (ShowsFirst c.args.tile c.unwrap_or-sealed.result c.loop-place.shown)
    (λ (batches : List Batch) (marks : List Mark). ◌≡◌ {A = Result Span AskFail} (Ok c.first_span-2.result) (Ok (when_first_changed batches marks c.args.tile c.args.now))) _ _
    (g.met.N.Notary.few_marks c.args.notary.now) c.ranges.id.fits (omega arith) c.loop-place.invariant.told
    (λ batches marks is. ap answered (c.first_span-2.ensures.value ∙ shows_span c.args.tile c.unwrap_or-sealed.result c.args.now c.loop-place.shown batches marks is))

pub returns-in_err-mark-clause-same : goal.returns-in_err-mark-clause-same
returns-in_err-mark-clause-same g c = unchanged_then _ _ _ c.loop-place.invariant.frame c.in_err-mark.ensures.frame c.loop-place.invariant.same c.in_err-mark.ensures.same

pub returns-in_err-mark-clause-frame : goal.returns-in_err-mark-clause-frame
returns-in_err-mark-clause-frame g c = goes_on_then _ _ _ c.loop-place.invariant.frame c.in_err-mark.ensures.frame

pub returns-in-None-clause-same : goal.returns-in-None-clause-same
returns-in-None-clause-same g c = unchanged_then _ _ _ c.loop-place.invariant.frame c.in_ok-mark.ensures.frame c.loop-place.invariant.same c.in_ok-mark.ensures.same

pub returns-in-None-clause-frame : goal.returns-in-None-clause-frame
returns-in-None-clause-frame g c = goes_on_then _ _ _ c.loop-place.invariant.frame c.in_ok-mark.ensures.frame

pub returns-in-None-clause-counted : goal.returns-in-None-clause-counted
returns-in-None-clause-counted g c = λ shows. c.in_ok-mark.ensures.counted (c.loop-place.invariant.frame.shows ∙ shows) ∙ c.loop-place.invariant.counted shows

use Rattle.std.proofs.Common.{◌+◌, [], true, false, List, take, refl, ◌∙◌, arith}
use Rattle.outside_words.proofs.Told.{told_same, told_map}
use Rattle.notary_link.specs.declared.mark.Mark.{Mark}
use Rattle.notary_link.specs.Batches.{Batch}
use Rattle.notary_link.specs.Notary.{Lists}
use Rattle.notary_link.proofs.Frame.{goes_on_same, goes_on_then}
use Rattle.notary_link.proofs.Unchanged.{unchanged_same, unchanged_then}
use Rattle.corruption_diagram.specs.Diagram.{batch_events, AreInOrder, AreAll}
use Rattle.corruption_diagram.proofs.Reading.{told_mark, told_end}
use Rattle.corruption_diagram.proofs.Among.{Among, none_among, mark_among, all_among, too_many}
use Rattle.corruption_diagram.proofs.diagram.add_marks.Goals as goal

pub loop-place-init : goal.loop-place-init
loop-place-init g c =
    let s = g.N.Notary.state c.args.notary.now in record {
      told = told_same s.lists s.lists (λ before after. Among c.args.tiles 0 c.args.events.now.items c.args.events.now.items (before.batches c.args.id) []) refl (λ lists. none_among c.args.tiles c.args.events.now.items (lists.batches c.args.id));
      same = unchanged_same s;
      asked = refl;
      frame = goes_on_same s;
      counted = λ shows. refl;
    }

pub loop-place-preserved : goal.loop-place-preserved
loop-place-preserved g c =
    let on = c.loop-place.invariant in
    let got = c.in_ok-mark.ensures in
    let is = c.in_ok-add_mark-in-Some.ensures.ok in record {
      told = told_mark c.args.id c.loop-place.place (Among c.args.tiles c.loop-place.place c.args.events.now.items c.loop-place.events.items) c.in-Some.mark (Among c.args.tiles (c.loop-place.place + 1) c.args.events.now.items c.add_mark.new.events.items) _ _ _
          got.frame.told.untold on.same.lists on.told (rw c.in-Some.is at got.value)
          (λ batches marks among. mark_among c.args.tiles c.loop-place.place c.in-Some.mark c.args.events.now.items c.loop-place.events.items c.add_mark.new.events.items is batches marks among);
      same = unchanged_then _ _ _ on.frame got.frame on.same got.same;
      asked = got.asked ∙ on.asked;
      frame = goes_on_then _ _ _ on.frame got.frame;
      counted = λ shows. got.counted (on.frame.shows ∙ shows) ∙ on.counted shows;
    }

pub returns-in-None-clause-value : goal.returns-in-None-clause-value
returns-in-None-clause-value g c =
    let on = c.loop-place.invariant in
    let got = c.in_ok-mark.ensures in
    told_end c.args.id c.loop-place.place (Among c.args.tiles c.loop-place.place c.args.events.now.items c.loop-place.events.items)
    (λ (batches : List Batch) (marks : List Mark). AreInOrder (batch_events batches c.args.tiles) c.args.events.now.items → AreAll batches marks c.args.tiles c.loop-place.events.items true) _ _ _
    got.frame.told.untold on.same.lists on.told (rw c.in-None.is at got.value)
    (all_among c.args.tiles c.loop-place.place c.args.events.now.items c.loop-place.events.items (omega (arith, c.loop-place-test.true, c.requires.few)))

pub returns-clause-value : goal.returns-clause-value
returns-clause-value g c =
    told_map _ _
    (λ (before after : Lists). Among c.args.tiles c.loop-place.place c.args.events.now.items c.loop-place.events.items (before.batches c.args.id) (take c.loop-place.place (before.marks c.args.id)))
    (λ (before after : Lists). AreInOrder (batch_events (before.batches c.args.id) c.args.tiles) c.args.events.now.items → AreAll (before.batches c.args.id) (before.marks c.args.id) c.args.tiles c.loop-place.events.items false)
    c.loop-place.invariant.told
    (λ before after among given. too_many c.args.tiles c.loop-place.place c.args.events.now.items c.loop-place.events.items (omega (arith, c.loop-place-test.false, c.requires.few)) (before.batches c.args.id) (before.marks c.args.id) among)

pub returns-in_err-mark-clause-same : goal.returns-in_err-mark-clause-same
returns-in_err-mark-clause-same g c = unchanged_then _ _ _ c.loop-place.invariant.frame c.in_err-mark.ensures.frame c.loop-place.invariant.same c.in_err-mark.ensures.same

pub returns-in_err-mark-clause-frame : goal.returns-in_err-mark-clause-frame
returns-in_err-mark-clause-frame g c = goes_on_then _ _ _ c.loop-place.invariant.frame c.in_err-mark.ensures.frame

pub returns-in_err-add_mark-in-Some-clause-same : goal.returns-in_err-add_mark-in-Some-clause-same
returns-in_err-add_mark-in-Some-clause-same g c = unchanged_then _ _ _ c.loop-place.invariant.frame c.in_ok-mark.ensures.frame c.loop-place.invariant.same c.in_ok-mark.ensures.same

pub returns-in_err-add_mark-in-Some-clause-frame : goal.returns-in_err-add_mark-in-Some-clause-frame
returns-in_err-add_mark-in-Some-clause-frame g c = goes_on_then _ _ _ c.loop-place.invariant.frame c.in_ok-mark.ensures.frame

pub returns-in-None-clause-same : goal.returns-in-None-clause-same
returns-in-None-clause-same g c = unchanged_then _ _ _ c.loop-place.invariant.frame c.in_ok-mark.ensures.frame c.loop-place.invariant.same c.in_ok-mark.ensures.same

pub returns-in-None-clause-frame : goal.returns-in-None-clause-frame
returns-in-None-clause-frame g c = goes_on_then _ _ _ c.loop-place.invariant.frame c.in_ok-mark.ensures.frame

pub returns-in-None-clause-counted : goal.returns-in-None-clause-counted
returns-in-None-clause-counted g c = λ shows. c.in_ok-mark.ensures.counted (c.loop-place.invariant.frame.shows ∙ shows) ∙ c.loop-place.invariant.counted shows

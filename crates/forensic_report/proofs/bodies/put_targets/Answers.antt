use Rattle.std.proofs.Common.{◌+◌, ◌<◌, length, get_or, refl, ◌∙◌, arith}
use Rattle.outside_words.proofs.Told.{told_same, told_map}
use Rattle.notary_link.specs.Notary.{Lists}
use Rattle.notary_link.proofs.Frame.{goes_on_same, goes_on_then}
use Rattle.notary_link.proofs.Unchanged.{unchanged_same, unchanged_then}
use Rattle.digest_model.specs.Layout.{layout_by}
use Rattle.corruption_diagram.proofs.Reading.{told_both}
use Rattle.digest_model.proofs.Layouts.{counts}
use Rattle.forensic_report.specs.Texts.{target_line, target_line_in}
use Rattle.forensic_report.proofs.Putting.{begins_same, begins_more, next_line, all_lines, target_is, kept_at, LinesAre, WasTold}
use Rattle.forensic_report.proofs.bodies.put_targets.Goals as goal

pub loop-failing-init : goal.loop-failing-init
loop-failing-init g c =
    let s = g.N.Notary.state c.args.notary.now in
    let line = target_line c.args.request.algorithm (layout_by c.args.eras.now) in record {
      told = told_same s.lists s.lists (λ before after. LinesAre line c.args.targets.now 0 c.args.clean.now c.args.request.now c.args.out.now.items c.args.out.now.items (before.batches c.args.request.id) (before.marks c.args.request.id)) refl (λ lists stand. refl);
      more = begins_same c.args.out.now.items;
      same = unchanged_same s;
      asked = refl;
      frame = goes_on_same s;
      counted = λ shows. refl;
    }

pub loop-failing-preserved : goal.loop-failing-preserved
loop-failing-preserved g c =
    let on = c.loop-failing.invariant in
    let got = c.in_ok-span.ensures in
    let put = c.in_ok-put_target.ensures.ok in
    let i = c.loop-failing.failing-index in
    let t = get_or c.args.targets.now c.loop-failing.failing-index (0, 0) in
    let l = layout_by c.args.eras.now in
    let line = target_line c.args.request.algorithm l in
    let old = c.args.out.now.items in
    let out = c.loop-failing.out.items in
    let new = c.put_target.new.out.items in
    let within : c.loop-failing.failing-index < length c.args.targets.now = omega arith in record {
      told = told_both c.args.request.id
          (LinesAre line c.args.targets.now i c.args.clean.now c.args.request.now old out)
          (WasTold c.args.clean.now c.args.request.now t.0 c.in_ok-span.span)
          (LinesAre line c.args.targets.now (i + 1) c.args.clean.now c.args.request.now old new) _ _ _
          got.frame.told.untold on.same.lists on.told got.value
          (λ batches marks is span stand. next_line (line (kept_at c.args.request.now batches marks)) c.args.targets.now i (0, 0) old out new within
          (target_is c.args.request.algorithm l t c.in_ok-span.span (kept_at c.args.request.now batches marks) out new (span stand) put) (is stand));
      more = begins_more old out (target_line_in c.args.request.algorithm l t c.in_ok-span.span) new on.more put;
      same = unchanged_then _ _ _ on.frame got.frame on.same got.same;
      asked = got.asked ∙ on.asked;
      frame = goes_on_then _ _ _ on.frame got.frame;
      counted = λ shows. got.counted (on.frame.shows ∙ shows) ∙ on.counted shows;
    }

pub returns-clause-value : goal.returns-clause-value
returns-clause-value g c =
    let line = target_line c.args.request.algorithm (layout_by c.args.eras.now) in
    told_map _ _
    (λ (before after : Lists). LinesAre line c.args.targets.now c.loop-failing.failing-index c.args.clean.now c.args.request.now c.args.out.now.items c.loop-failing.out.items (before.batches c.args.request.id) (before.marks c.args.request.id))
    _ c.loop-failing.invariant.told
    (λ before after is stand. all_lines (line (kept_at c.args.request.now (before.batches c.args.request.id) (before.marks c.args.request.id))) c.args.targets.now c.loop-failing.failing-index c.args.out.now.items c.loop-failing.out.items (omega arith) (is stand))

pub put_target-requires-clause-below : goal.put_target-requires-clause-below
put_target-requires-clause-below g c = (c.requires.failing c.loop-failing.failing-index (0, 0) (omega arith)).0

pub when_by-requires : goal.when_by-requires
when_by-requires g c =
    let t = get_or c.args.targets.now c.loop-failing.failing-index (0, 0) in
    record { small = omega (arith, counts (layout_by c.args.eras.now) t.0, (c.requires.failing c.loop-failing.failing-index (0, 0) (omega arith)).0) }

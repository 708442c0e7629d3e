use Rattle.std.proofs.Common.{◌≡◌, ◌+◌, ◌<◌, length, get_or, None, Some, refl, ap, ◌∙◌, arith}
use Rattle.outside_words.proofs.Told.{told_same, told_map}
use Rattle.notary_link.specs.Notary.{Lists}
use Rattle.notary_link.proofs.Frame.{goes_on_same, goes_on_then}
use Rattle.notary_link.proofs.Unchanged.{unchanged_same, unchanged_then}
use Rattle.digest_model.specs.Layout.{tile_of, max_granules}
use Rattle.digest_model.specs.Layout.{layout_by}
use Rattle.forensic_report.specs.declared.asking.Recent.{Recent}
use Rattle.corruption_diagram.proofs.Reading.{told_both}
use Rattle.forensic_report.specs.Texts.{granule_line, granule_line_in, span_of}
use Rattle.forensic_report.proofs.Putting.{begins_same, begins_more, next_line, all_lines, granule_is, kept_at, GranulesAre, WasAsked}
use Rattle.forensic_report.proofs.Whole.{tile_below}
use Rattle.forensic_report.proofs.bodies.put_granules.Goals as goal

pub loop-granule-init : goal.loop-granule-init
loop-granule-init g c =
    let s = g.N.Notary.state c.args.notary.now in
    let l = layout_by c.args.eras.now in record {
      told = told_same s.lists s.lists (λ before after. GranulesAre l c.args.granules.now 0 c.args.clean.now c.args.request.now None c.args.out.now.items c.args.out.now.items (before.batches c.args.request.id) (before.marks c.args.request.id)) refl (λ lists stand. (tt, refl));
      more = begins_same c.args.out.now.items;
      same = unchanged_same s;
      asked = refl;
      frame = goes_on_same s;
      counted = λ shows. refl;
    }

pub loop-granule-preserved : goal.loop-granule-preserved
loop-granule-preserved g c =
    let on = c.loop-granule.invariant in
    let got = c.in_ok-span.ensures in
    let put = c.in_ok-put_granule.ensures.ok in
    let i = c.loop-granule.granule-index in
    let granule = get_or c.args.granules.now c.loop-granule.granule-index 0 in
    let l = layout_by c.args.eras.now in
    let tile = c.tiles-tile.result in
    let recent : Recent = record { tile = c.tiles-tile.result; span = c.in_ok-span.span } in
    let old = c.args.out.now.items in
    let out = c.loop-granule.out.items in
    let new = c.put_granule.new.out.items in
    let within : c.loop-granule.granule-index < length c.args.granules.now = omega arith in record {
      told = told_both c.args.request.id
          (GranulesAre l c.args.granules.now i c.args.clean.now c.args.request.now c.loop-granule.recent old out)
          (WasAsked c.args.clean.now c.args.request.now c.loop-granule.recent tile c.in_ok-span.span)
          (GranulesAre l c.args.granules.now (i + 1) c.args.clean.now c.args.request.now (Some recent) old new) _ _ _
          got.frame.told.untold on.same.lists on.told got.value
          (λ batches marks is asked stand. (
            asked stand (is stand).0,
            next_line (granule_line l (kept_at c.args.request.now batches marks)) c.args.granules.now i 0 old out new within
                (granule_is l granule c.in_ok-span.span (kept_at c.args.request.now batches marks) out new (asked stand (is stand).0 ∙ ap (span_of (kept_at c.args.request.now batches marks)) c.tiles-tile.ensures.value) put) (is stand).1,
          ));
      more = begins_more old out (granule_line_in granule c.in_ok-span.span) new on.more put;
      same = unchanged_then _ _ _ on.frame got.frame on.same got.same;
      asked = got.asked ∙ on.asked;
      frame = goes_on_then _ _ _ on.frame got.frame;
      counted = λ shows. got.counted (on.frame.shows ∙ shows) ∙ on.counted shows;
    }

pub returns-clause-value : goal.returns-clause-value
returns-clause-value g c =
    let l = layout_by c.args.eras.now in
    told_map _ _
    (λ (before after : Lists). GranulesAre l c.args.granules.now c.loop-granule.granule-index c.args.clean.now c.args.request.now c.loop-granule.recent c.args.out.now.items c.loop-granule.out.items (before.batches c.args.request.id) (before.marks c.args.request.id))
    _ c.loop-granule.invariant.told
    (λ before after is stand. all_lines (granule_line l (kept_at c.args.request.now (before.batches c.args.request.id) (before.marks c.args.request.id))) c.args.granules.now c.loop-granule.granule-index c.args.out.now.items c.loop-granule.out.items (omega arith) (is stand).1)

pub returns-in_err-span-clause-same : goal.returns-in_err-span-clause-same
returns-in_err-span-clause-same g c = unchanged_then _ _ _ c.loop-granule.invariant.frame c.in_err-span.ensures.frame c.loop-granule.invariant.same c.in_err-span.ensures.same

pub returns-in_err-span-clause-frame : goal.returns-in_err-span-clause-frame
returns-in_err-span-clause-frame g c = goes_on_then _ _ _ c.loop-granule.invariant.frame c.in_err-span.ensures.frame

pub returns-in_err-put_granule-clause-same : goal.returns-in_err-put_granule-clause-same
returns-in_err-put_granule-clause-same g c = unchanged_then _ _ _ c.loop-granule.invariant.frame c.in_ok-span.ensures.frame c.loop-granule.invariant.same c.in_ok-span.ensures.same

pub returns-in_err-put_granule-clause-frame : goal.returns-in_err-put_granule-clause-frame
returns-in_err-put_granule-clause-frame g c = goes_on_then _ _ _ c.loop-granule.invariant.frame c.in_ok-span.ensures.frame

pub span_after-requires : goal.span_after-requires
span_after-requires g c =
    let l = layout_by c.args.eras.now in
    let granule = get_or c.args.granules.now c.loop-granule.granule-index 0 in
    let below : granule < max_granules = c.requires.within c.loop-granule.granule-index 0 (omega arith) in
    let is : c.tiles-tile.result ≡ tile_of l granule = c.tiles-tile.ensures.value in
    record { small = omega (arith, is, tile_below l granule, below) }

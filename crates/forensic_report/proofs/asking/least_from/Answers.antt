use Rattle.std.proofs.Common.{◌+◌, ◌<◌, min, ◌∙◌, arith}
use Rattle.notary_link.proofs.Frame.{goes_on_then}
use Rattle.notary_link.proofs.Unchanged.{unchanged_then}
use Rattle.corruption_diagram.proofs.Reading.{told_both}
use Rattle.forensic_report.proofs.Putting.{LeastIs, WasTold, least_told}
use Rattle.forensic_report.proofs.asking.least_from.Goals as goal

pub loop-tile-preserved : goal.loop-tile-preserved
loop-tile-preserved g c =
    let on = c.loop-tile.invariant in
    let got = c.in_ok-span.ensures in
    let past : c.args.first < c.loop-tile.tile = omega (arith, c.loop-tile.auto.tile) in record {
      told = rw c.min-from.ensures (told_both c.args.id (LeastIs c.args.clean.now c.args.first c.loop-tile.tile c.loop-tile.from) (WasTold c.args.clean.now c.args.now c.loop-tile.tile c.in_ok-span.span)
          (LeastIs c.args.clean.now c.args.first (c.loop-tile.tile + 1) (min c.loop-tile.from c.in_ok-span.span.from)) _ _ _
          got.frame.told.untold on.same.lists on.told got.value
          (least_told c.args.clean.now c.args.now c.args.first c.loop-tile.tile c.loop-tile.from c.in_ok-span.span past));
      same = unchanged_then _ _ _ on.frame got.frame on.same got.same;
      asked = got.asked ∙ on.asked;
      frame = goes_on_then _ _ _ on.frame got.frame;
      counted = λ shows. got.counted (on.frame.shows ∙ shows) ∙ on.counted shows;
    }

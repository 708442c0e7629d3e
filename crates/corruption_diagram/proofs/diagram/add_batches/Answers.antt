use Rattle.std.proofs.Common.{◌≡◌, ◌+◌, [], List, map, refl, ◌∙◌}
use Rattle.std.specs.List.{range_with_len}
use Rattle.outside_words.proofs.Told.{told_same}
use Rattle.notary_link.specs.Batches.{Batch}
use Rattle.notary_link.proofs.Frame.{goes_on_same, goes_on_then}
use Rattle.notary_link.proofs.Unchanged.{unchanged_same, unchanged_then}
use Rattle.corruption_diagram.specs.Diagram.{batch_event, AreInOrder}
use Rattle.corruption_diagram.proofs.Reading.{told_batch}
use Rattle.corruption_diagram.proofs.Placing.{batch_push}
use Rattle.corruption_diagram.proofs.diagram.add_batches.Goals as goal

pub loop-tile-init : goal.loop-tile-init
loop-tile-init g c =
    let s = g.N.Notary.state c.args.notary.now in record {
      told = told_same s.lists s.lists (λ before after. c.args.events.now.items ≡ []) refl (λ lists. c.requires.none);
      same = unchanged_same s;
      asked = refl;
      frame = goes_on_same s;
      counted = λ shows. refl;
    }

pub loop-tile-preserved : goal.loop-tile-preserved
loop-tile-preserved g c =
    let on = c.loop-tile.invariant in
    let got = c.in_ok-moment_of.ensures in
    let is = rw c.unwrap_or-moment.ensures at c.in_ok-add_batch.ensures.ok in record {
      told = told_batch c.args.id (c.loop-tile.tile + 1) c.in_ok-moment_of.field-0
          (λ (batches : List Batch). AreInOrder (map (batch_event batches c.args.tiles) (range_with_len 0 c.loop-tile.tile)) c.loop-tile.events.items)
          (λ (batches : List Batch). AreInOrder (map (batch_event batches c.args.tiles) (range_with_len 0 (c.loop-tile.tile + 1))) c.add_batch.new.events.items) _ _ _
          got.frame.told.untold on.same.lists on.told got.value
          (λ batches before moment. batch_push batches c.args.tiles c.loop-tile.tile c.in_ok-moment_of.field-0 c.loop-tile.events.items c.add_batch.new.events.items before is moment);
      same = unchanged_then _ _ _ on.frame got.frame on.same got.same;
      asked = got.asked ∙ on.asked;
      frame = goes_on_then _ _ _ on.frame got.frame;
      counted = λ shows. got.counted (on.frame.shows ∙ shows) ∙ on.counted shows;
    }

pub returns-in_err-moment_of-clause-same : goal.returns-in_err-moment_of-clause-same
returns-in_err-moment_of-clause-same g c = unchanged_then _ _ _ c.loop-tile.invariant.frame c.in_err-moment_of.ensures.frame c.loop-tile.invariant.same c.in_err-moment_of.ensures.same

pub returns-in_err-moment_of-clause-frame : goal.returns-in_err-moment_of-clause-frame
returns-in_err-moment_of-clause-frame g c = goes_on_then _ _ _ c.loop-tile.invariant.frame c.in_err-moment_of.ensures.frame

pub returns-in_err-add_batch-clause-same : goal.returns-in_err-add_batch-clause-same
returns-in_err-add_batch-clause-same g c = unchanged_then _ _ _ c.loop-tile.invariant.frame c.in_ok-moment_of.ensures.frame c.loop-tile.invariant.same c.in_ok-moment_of.ensures.same

pub returns-in_err-add_batch-clause-frame : goal.returns-in_err-add_batch-clause-frame
returns-in_err-add_batch-clause-frame g c = goes_on_then _ _ _ c.loop-tile.invariant.frame c.in_ok-moment_of.ensures.frame

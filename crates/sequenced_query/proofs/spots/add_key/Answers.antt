use Rattle.sequenced_query.proofs.Spotted.{next_version, all_versions}
use Rattle.sequenced_query.proofs.spots.add_key.Goals as goal

pub loop-place-preserved : goal.loop-place-preserved
loop-place-preserved c = record {
  stays = λ s here. c.in_ok-add_version.ensures.stays s (c.loop-place.invariant.stays s here);
  added = next_version c.args.span c.loop-place.spots.items c.add_version.new.spots.items c.in_ok-add_version.ensures.stays c.args.key c.loop-place.place c.args.versions.now c.index-versions-place.result
      c.loop-place-test.true c.index-versions-place.is c.loop-place.invariant.added c.in_ok-add_version.ensures.added;
}

pub returns : goal.returns
returns c = record {
  stays = c.loop-place.invariant.stays;
  added = all_versions c.args.span c.loop-place.spots.items c.args.key c.loop-place.place c.args.versions.now c.loop-place-test.false c.loop-place.invariant.added;
}

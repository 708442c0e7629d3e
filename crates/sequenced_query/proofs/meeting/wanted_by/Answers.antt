use Rattle.sequenced_query.proofs.Spotted.{next_wanted, all_wanted}
use Rattle.sequenced_query.proofs.meeting.wanted_by.Goals as goal

pub loop-left-preserved : goal.loop-left-preserved
loop-left-preserved c =
    next_wanted c.args.column c.args.span c.args.listing.now c.loop-left.wanted.keys c.want_version.new.wanted.keys c.in_ok-want_version.ensures.stays c.loop-left.left c.args.versions.now c.index-versions-left.result
    c.loop-left-test.true c.index-versions-left.is c.loop-left.invariant c.in_ok-want_version.ensures.added

pub returns : goal.returns
returns c = record {
  value = all_wanted c.args.column c.args.span c.args.listing.now c.loop-left.wanted.keys c.loop-left.left c.args.versions.now c.loop-left-test.false c.loop-left.invariant;
}

use Rattle.std.proofs.Common.{length, arith}
use Rattle.sequenced_query.proofs.Blocked.{wants_both}
use Rattle.sequenced_query.proofs.blocks.want_entries.Goals as goal

pub loop-count-preserved : goal.loop-count-preserved
loop-count-preserved c = record {
  within = omega (arith, c.in_ok-count.ensures.fewer, c.loop-count.invariant.within);
  stays = λ m e. c.in_ok-count.ensures.stays m (c.loop-count.invariant.stays m e);
  added = wants_both c.args.left c.args.part c.loop-count.wanted.keys c.want_last.new.wanted.keys c.in_ok-count.ensures.stays c.args.entries.now c.in_ok-count.count c.loop-count.count (length c.args.entries.now)
      c.in_ok-count.ensures.added c.loop-count.invariant.added;
}

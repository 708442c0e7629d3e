-- Segment by segment, the items of all are read.
use Rattle.std.proofs.Common.{arith}
use Rattle.history_model.proofs.Replays.{read_next}
use Rattle.history_model.proofs.plain.replay.replay_segments.Goals as goal

pub segments-preserved : goal.segments-preserved
segments-preserved c = record {
  read = read_next c.segments.segment c.args.bytes.now c.segments.items c.replay_segment-in-segments.new.items c.segments.end c.in_ok-end-2.end c.segments.invariant.read c.in_ok-end-2.ensures.ok;
  last_is = c.segments.invariant.last_is;
  few = let more = c.segments-test.true in omega (arith, more);
}

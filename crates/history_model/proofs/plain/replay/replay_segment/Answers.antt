-- What was read of the bytes up to the end of a segment is what stands in it.
use Rattle.std.proofs.lemmas.Result.{IfOk-weaker}
use Rattle.history_model.proofs.Replays.{in_segment}
use Rattle.history_model.proofs.plain.replay.replay_segment.Goals as goal

pub returns : goal.returns
returns c = record {
  ok = IfOk-weaker c.replay.result _ _ (λ end read. in_segment c.args.segment c.segment_start.result c.up_to_end.result.now c.args.bytes.now c.args.items.now c.replay.new.items end
      c.up_to_end.ensures.value c.segment_start.ensures.value read) c.replay.ensures.ok;
}

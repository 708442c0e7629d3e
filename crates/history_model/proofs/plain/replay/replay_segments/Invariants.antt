use Rattle.std.proofs.Common.{◌≡◌, ◌-◌, ◌≤◌}
use Rattle.history_model.specs.Segments.{last_segment}
use Rattle.history_model.proofs.Replays.{HaveRead}
use Rattle.history_model.proofs.plain.replay.replay_segments.Given as goal

abbrev pub invariant-segments : goal.invariant-segments
invariant-segments l = record {
  read : HaveRead l.segment l.bytes l.items l.end;
  last_is : l.last ≡ last_segment l.bytes;
  few : l.segment ≤ l.last;
}

abbrev pub decreases-segments : goal.decreases-segments
decreases-segments l = l.last - l.segment

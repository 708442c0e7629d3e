use Rattle.std.proofs.Common.{◌-◌, ◌<◌, drop, length}
use Rattle.byte_grammar.specs.Gated.{records}
use Rattle.history_model.specs.Stored.{store_shape}
use Rattle.history_model.proofs.Replays.{IsReplaying, behind}
use Rattle.store_inspect.proofs.runs.read_run.Given as goal

-- the items so far, with those that follow
abbrev pub invariant-records : goal.invariant-records
invariant-records l = record {
  replaying : IsReplaying (behind l.initial.items (records store_shape l.start 0 (drop l.start l.bytes))) l.bytes l.place l.items;
  inside : l.place < length l.bytes;
}

abbrev pub decreases-records : goal.decreases-records
decreases-records l = length l.bytes - l.place

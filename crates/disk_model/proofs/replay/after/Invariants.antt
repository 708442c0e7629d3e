use Rattle.std.proofs.Common.{◌≡◌, take}
use Rattle.disk_words.specs.Record.{bytes_after}
use Rattle.disk_model.specs.Calls.{trace_of}
use Rattle.disk_model.proofs.replay.after.Given as goal

abbrev pub invariant-loop-made : goal.invariant-loop-made
invariant-loop-made l = l.bytes.items ≡ bytes_after l.first.items (trace_of (take l.made-index l.made))

use Rattle.std.proofs.Common.{◌≡◌, ◌≤◌, ℕ, List, length, take}
use Rattle.disk_words.specs.Record.{bytes_synced}
use Rattle.disk_model.specs.Calls.{trace_of}
use Rattle.disk_model.proofs.replay.until_synced.Given as goal

abbrev pub invariant-loop-n : goal.invariant-loop-n
invariant-loop-n l = record { within : l.n ≤ length l.made; same : (first : List ℕ) → bytes_synced first (trace_of l.made) ≡ bytes_synced first (trace_of (take l.n l.made)) }

abbrev pub decreases-loop-n : goal.decreases-loop-n
decreases-loop-n l = l.n

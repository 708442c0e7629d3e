use Rattle.std.proofs.Common.{◌≡◌}
use Rattle.std.specs.List.{flat_map, range_with_len}
use Rattle.history_model.specs.Stored.{items_of}
use Rattle.store_inspect.specs.Runs.{run_of, tail_at}
use Rattle.store_inspect.proofs.runs.read_runs.Given as goal

-- what the runs so far hold
abbrev pub invariant-loop-run : goal.invariant-loop-run
invariant-loop-run l = record {
  items : l.runs.items ≡ flat_map (λ q. items_of (run_of l.format q l.bytes).0) (range_with_len 0 l.run);
  tails : l.runs.tails.items ≡ flat_map (tail_at l.format l.bytes) (range_with_len 0 l.run);
}

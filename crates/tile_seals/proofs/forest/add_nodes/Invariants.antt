use Rattle.std.proofs.Common.{◌≡◌, ℕ, suc, ◌^◌, ◌<◌, ◌≤◌, length, map}
use Rattle.std.specs.List.{range_with_len}
use Rattle.history_model.specs.History.{History}
use Rattle.digest_model.specs.Digests.{node_digest}
use Rattle.tile_seals.specs.Places.{level_of}
use Rattle.tile_seals.proofs.forest.add_nodes.Given as goal

abbrev pub invariant-loop-index : goal.invariant-loop-index
invariant-loop-index l = record {
  count : length l.nodes ≡ l.index;
  small : l.index < 2 ^ 32;
  value : (h : History) (first m before lower : ℕ) → l.level ≡ suc lower → l.below ≡ level_of h first m lower → l.fn.nodes ≡ level_of h first before l.level → before ≤ m
      → l.nodes ≡ map (node_digest h first l.level) (range_with_len 0 l.index);
}

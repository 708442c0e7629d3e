use Rattle.std.proofs.Common.{◌≡◌, ℕ, ◌+◌, ◌^◌, ◌<◌, ◌≤◌, [], length, get_or, map}
use Rattle.std.specs.List.{range_with_len}
use Rattle.history_model.specs.History.{History}
use Rattle.digest_model.specs.Digests.{granule_digest}
use Rattle.tile_seals.specs.Places.{levels_of}
use Rattle.tile_seals.proofs.Growing.{IsGrown}
use Rattle.tile_seals.proofs.forest.Forest.grow.Given as goal

abbrev pub invariant-loop-level : goal.invariant-loop-level
invariant-loop-level l = record {
  few : (k : ℕ) → length (get_or l.self k []) < 2 ^ 32;
  grown : (h : History) (first m : ℕ) → l.fn.self ≡ levels_of h first m → l.leaves ≡ map (granule_digest h) (range_with_len (first + m) (length l.leaves))
      → IsGrown h first m (m + length l.leaves) l.level l.self;
}

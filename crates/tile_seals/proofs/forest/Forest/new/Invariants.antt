use Rattle.std.proofs.Common.{◌≡◌, ℕ, length, map}
use Rattle.std.specs.List.{range_with_len}
use Rattle.history_model.specs.History.{History}
use Rattle.tile_seals.specs.Places.{level_of}
use Rattle.tile_seals.proofs.forest.Forest.new.Given as goal

abbrev pub invariant-loop-level : goal.invariant-loop-level
invariant-loop-level l = record {
  count : length l.levels.items ≡ l._level;
  value : (h : History) (first : ℕ) → l.levels.items ≡ map (level_of h first 0) (range_with_len 0 l._level);
}

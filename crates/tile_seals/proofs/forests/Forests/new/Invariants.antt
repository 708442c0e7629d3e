use Rattle.std.proofs.Common.{◌≡◌, map}
use Rattle.std.specs.List.{range_with_len}
use Rattle.history_model.specs.History.{History}
use Rattle.tile_seals.specs.Places.{forest_of}
use Rattle.tile_seals.proofs.forests.Forests.new.Given as goal

abbrev pub invariant-loop-era : goal.invariant-loop-era
invariant-loop-era l = (h : History) → l.forests.items ≡ map (forest_of h 0) (range_with_len 0 l._era)

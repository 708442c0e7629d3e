use Rattle.std.proofs.Common.{◌≡◌, ◌++◌, map}
use Rattle.std.specs.List.{range_with_len}
use Rattle.history_model.specs.History.{History}
use Rattle.digest_model.specs.Layout.{layout, exponent}
use Rattle.digest_model.specs.Digests.{tile_digest}
use Rattle.tile_seals.specs.Places.{part_at, leaves_in}
use Rattle.tile_seals.proofs.parts.add_parts.Given as goal

abbrev pub invariant-loop-place : goal.invariant-loop-place
invariant-loop-place l = (h : History) → l.leaves ≡ leaves_in h l.tile → l.digests ≡ l.fn.digests ++ map (λ place. tile_digest h l.tile (part_at place)) (range_with_len 0 l.place)

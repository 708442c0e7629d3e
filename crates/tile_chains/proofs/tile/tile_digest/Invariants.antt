use Rattle.std.proofs.Common.{◌∷◌, ◌++◌}
use Rattle.std.specs.Int.{w32, to_be_bytes}
use Rattle.sha2.specs.Hashers.{Holds256}
use Rattle.tile_chains.proofs.Parts.{joined}
use Rattle.tile_chains.proofs.tile.tile_digest.Given as goal

abbrev pub invariant-loop-number : goal.invariant-loop-number
invariant-loop-number l = Holds256 l.hasher (3 ∷ (to_be_bytes w32 l.tile ++ (l.part ∷ joined l.part l.granule_digests l.number)))

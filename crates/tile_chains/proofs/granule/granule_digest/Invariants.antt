use Rattle.std.proofs.Common.{◌≡◌, ◌+◌, take}
use Rattle.tile_chains.specs.Hashed.{HasHashed}
use Rattle.tile_chains.proofs.granule.granule_digest.Given as goal

abbrev pub invariant-loop-spelling : goal.invariant-loop-spelling
invariant-loop-spelling g l = record {
  hashed : HasHashed l.hash l.granule (take l.spelling-index l.spelling-items);
  steps : l.steps ≡ l.initial.steps + l.spelling-index;
}

use Rattle.std.proofs.Common.{◌≡◌, ◌+◌, fold, take}
use Rattle.digest_model.specs.Digests.{next_link}
use Rattle.cumulative_chain.proofs.tiles.link_all.Given as goal

abbrev pub invariant-loop-spelling : goal.invariant-loop-spelling
invariant-loop-spelling g l = record {
  value : l.value ≡ fold next_link l.initial.previous (take l.spelling-index l.spelling-items);
  steps : l.steps ≡ l.initial.steps + l.spelling-index;
}

use Rattle.std.proofs.Common.{◌≡◌, ℕ, List, ◌+◌, fold, length}
use Rattle.digest_model.specs.Digests.{next_link}
use Rattle.cumulative_chain.specs.Tiles.{front, AreBelow}
use Rattle.cumulative_chain.proofs.tiles.link_below.Given as goal

abbrev pub invariant-loop-place : goal.invariant-loop-place
invariant-loop-place g l = record {
  value : (start : List ℕ) → l.initial.value ≡ fold next_link start (front l.granules l.from) → l.value ≡ fold next_link start (front l.granules l.place);
  below : AreBelow l.granules l.place l.end;
  steps : l.steps + length (front l.granules l.from) ≡ l.initial.steps + length (front l.granules l.place);
}

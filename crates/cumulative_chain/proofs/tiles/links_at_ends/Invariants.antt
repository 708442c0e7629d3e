use Rattle.std.proofs.Common.{◌≡◌, ◌+◌, length, take, map}
use Rattle.digest_model.specs.Digests.{link_of_spelled}
use Rattle.cumulative_chain.specs.Tiles.{link_below, end_before, front, IsSplit}
use Rattle.cumulative_chain.proofs.tiles.links_at_ends.Given as goal

abbrev pub invariant-loop-end : goal.invariant-loop-end
invariant-loop-end g l = record {
  links : l.links.items ≡ map (link_below l.header l.granules) (take l.end-index l.ends);
  value : l.value ≡ link_of_spelled l.header (front l.granules l.place);
  split : IsSplit l.granules l.place (end_before l.ends l.end-index);
  steps : l.steps ≡ l.initial.steps + length (front l.granules l.place);
}

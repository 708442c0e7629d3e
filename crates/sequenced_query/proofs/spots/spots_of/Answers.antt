use Rattle.std.proofs.Common.{map}
use Rattle.sequenced_query.proofs.Items.{has_permuted}
use Rattle.sequenced_query.proofs.Spotted.{reordered}
use Rattle.sequenced_query.proofs.spots.spots_of.Goals as goal

pub returns : goal.returns
returns c = record {
  value = reordered c.args.span (map (λ k. k.now) c.args.keys.now) c.in_ok-spots.spots.items c.sort_unstable_by_key.new.self.items
      (has_permuted c.in_ok-spots.spots.items c.sort_unstable_by_key.new.self.items c.sort_unstable_by_key.ensures.permutation) c.in_ok-spots.ensures.value;
}

use Rattle.std.proofs.Common.{[], ◌∷◌, sym, subst}
use Rattle.sequenced_query.specs.Spots.{Has}
use Rattle.sequenced_query.proofs.Items.{has_front, has_last}
use Rattle.sequenced_query.proofs.spots.push_spot.Goals as goal

pub returns : goal.returns
returns c = record {
  stays = λ s here. subst (Has s) (sym c.in_ok-push.ensures.items) (has_front s c.args.spots.now.items (c.args.spot ∷ []) here);
  added = subst (Has c.args.spot) (sym c.in_ok-push.ensures.items) (has_last c.args.spot c.args.spots.now.items);
}

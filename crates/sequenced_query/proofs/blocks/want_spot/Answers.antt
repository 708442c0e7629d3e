use Rattle.sequenced_query.proofs.Blocked.{insert_stays}
use Rattle.sequenced_query.proofs.blocks.want_spot.Goals as goal

pub returns-clause-stays : goal.returns-clause-stays
returns-clause-stays c = insert_stays c.args.wanted.now.keys c.insert.new.self.keys (record { key = c.args.spot.key; left = c.args.left; right = c.args.spot.version }) c.in_ok-insert.ensures.updates.0

use Rattle.std.proofs.Common.{IfSome, subst}
use Rattle.std.proofs.lemmas.Result.{on_ok_weaker}
use Rattle.sequenced_query.specs.Spots.{Has}
use Rattle.sequenced_query.proofs.spots.add_version.Goals as goal

pub returns-in-Some-clause-added : goal.returns-in-Some-clause-added
returns-in-Some-clause-added c =
    on_ok_weaker c.push_spot.result (subst (λ o. IfSome o (λ q. Has (record { part = q; key = c.args.key; version = c.args.place }) c.push_spot.new.spots.items)) c.in-Some.ensures.value) c.push_spot.ensures.added

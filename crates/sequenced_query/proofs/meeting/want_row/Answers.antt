use Rattle.std.proofs.Common.{IfSome, subst}
use Rattle.std.proofs.lemmas.Result.{on_ok_weaker}
use Rattle.sequenced_query.specs.Listing.{spots_at}
use Rattle.sequenced_query.specs.Wanted.{HasMeetings}
use Rattle.sequenced_query.proofs.meeting.want_row.Goals as goal

pub returns-in-Some-clause-added : goal.returns-in-Some-clause-added
returns-in-Some-clause-added c =
    on_ok_weaker c.want_value.result (subst (λ o. IfSome o (λ x. HasMeetings c.args.left c.args.part c.want_value.new.wanted.keys (spots_at c.args.listing.now x))) c.in-Some.ensures.value) c.want_value.ensures.added

use Rattle.std.proofs.Common.{IfSome, List, subst}
use Rattle.std.proofs.lemmas.Result.{on_ok_weaker}
use Rattle.tuple_bytes.specs.declared.value.Value.{Value}
use Rattle.sequenced_query.specs.Listing.{join_value, spots_at}
use Rattle.sequenced_query.specs.Wanted.{HasMeetings}
use Rattle.sequenced_query.proofs.meeting.want_version.Goals as goal

pub returns-in-Some-clause-added : goal.returns-in-Some-clause-added
returns-in-Some-clause-added c =
    on_ok_weaker c.want_row.result (λ added. subst (λ o. IfSome o (λ p. IfSome (join_value c.args.column c.args.version.now.row) (λ x. HasMeetings c.args.left p c.want_row.new.wanted.keys (spots_at c.args.listing.now x)))) c.in-Some.ensures.value
    (subst (λ (row : List Value). IfSome (join_value c.args.column row) (λ x. HasMeetings c.args.left c.in-Some.part c.want_row.new.wanted.keys (spots_at c.args.listing.now x))) c.as_slice.ensures.value added)) c.want_row.ensures.added

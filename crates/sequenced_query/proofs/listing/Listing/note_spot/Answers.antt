use Rattle.std.proofs.Common.{IfSome, List, subst}
use Rattle.std.proofs.lemmas.Result.{on_ok_weaker}
use Rattle.tuple_bytes.specs.declared.value.Value.{Value}
use Rattle.sequenced_query.specs.Listing.{join_value, spots_at}
use Rattle.sequenced_query.specs.Spots.{Has}
use Rattle.sequenced_query.proofs.listing.Listing.note_spot.Goals as goal

pub returns-in-Some-clause-listed : goal.returns-in-Some-clause-listed
returns-in-Some-clause-listed c =
    on_ok_weaker c.note_row.result (λ listed. subst (λ o. IfSome o (λ v. IfSome (join_value c.args.column v.row) (λ x. Has c.args.spot (spots_at c.note_row.new.self x)))) c.in-Some.ensures.value
    (subst (λ (row : List Value). IfSome (join_value c.args.column row) (λ x. Has c.args.spot (spots_at c.note_row.new.self x))) c.as_slice.ensures.value listed)) c.note_row.ensures.listed

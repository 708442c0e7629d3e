use Rattle.std.proofs.Common.{IfSome, subst}
use Rattle.std.proofs.lemmas.Result.{on_ok_weaker}
use Rattle.sequenced_query.specs.Listing.{spots_at}
use Rattle.sequenced_query.specs.Spots.{Has}
use Rattle.sequenced_query.proofs.Noting.{note_grows, note_lists}
use Rattle.sequenced_query.proofs.listing.Listing.note_row.Goals as goal

pub returns-in-Some : goal.returns-in-Some
returns-in-Some c = record {
  grows = on_ok_weaker c.note.result (λ noted. note_grows c.args.self.now c.note.new.self c.in-Some.value.now c.args.spot noted) c.note.ensures.value;
  listed = on_ok_weaker c.note.result (λ noted. subst (λ o. IfSome o (λ x. Has c.args.spot (spots_at c.note.new.self x))) c.in-Some.ensures.value (note_lists c.args.self.now c.note.new.self c.in-Some.value.now c.args.spot noted)) c.note.ensures.value;
}

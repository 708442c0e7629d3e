use Rattle.std.proofs.Common.{◌∙◌, arith}
use Rattle.book_inspect.proofs.Booking.{entries_step}
use Rattle.book_inspect.proofs.book.taken.Goals as goal

pub loop-payload-preserved : goal.loop-payload-preserved
loop-payload-preserved c =
    let so_far = c.loop-payload.invariant in
    record {
      known = entries_step c.args.id c.args.payloads.now c.loop-payload.payload-index c.payload-item.result c.as_slice.result.now c.loop-payload.entries c.take_payload.new.self c.loop-payload-test.true c.payload-item.is c.as_slice.ensures.value so_far.own
          c.in_ok-take_payload.ensures.value so_far.known;
      own = c.take_payload.ensures.id ∙ so_far.own;
      few = (let more = c.take_payload.ensures.few in let few = so_far.few in omega (arith, more, few));
    }

use Rattle.std.proofs.Common.{subst, arith}
use Rattle.book_inspect.specs.KnownOrder.{KnowsOrder}
use Rattle.book_inspect.proofs.Booking.{calls_more}
use Rattle.book_inspect.proofs.order.Order.of.Goals as goal

pub loop-payload-preserved : goal.loop-payload-preserved
loop-payload-preserved c =
    let so_far = c.loop-payload.invariant in
    record {
      known = subst (KnowsOrder c.take_payload.new.self) (calls_more c.args.payloads.now c.loop-payload.payload-index c.payload-item.result c.as_slice.result.now c.loop-payload-test.true c.payload-item.is c.as_slice.ensures.value)
          (c.in_ok-take_payload.ensures.value _ so_far.known);
      few = (let more = c.take_payload.ensures.few in let few = so_far.few in omega (arith, more, few));
    }

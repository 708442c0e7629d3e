use Rattle.std.proofs.Common.{subst, arith}
use Rattle.book_inspect.proofs.Booking.{calls_more}
use Rattle.inspect_call.specs.Known.{KnowsEarly}
use Rattle.inspect_call.proofs.both.early_in.Goals as goal

pub loop-payload-preserved : goal.loop-payload-preserved
loop-payload-preserved c =
    let so_far = c.loop-payload.invariant in
    record {
      known = subst (KnowsEarly c.args.known.now c.args.id c.take_payload.new.self) (calls_more c.args.payloads.now c.loop-payload.payload-index c.payload-item.result c.as_slice.result.now c.loop-payload-test.true c.payload-item.is c.as_slice.ensures.value)
          (c.in_ok-take_payload.ensures.value _ so_far.known);
      few = (let more = c.take_payload.ensures.few in let few = so_far.few in omega (arith, more, few));
    }

pub loop-payload-init : goal.loop-payload-init
loop-payload-init c = record { known = c.new-early.ensures.value c.args.known.now c.args.id; few = (let none = c.new-early.ensures.none in omega (arith, none)) }

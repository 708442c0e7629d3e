use Rattle.std.proofs.Common.{ap, ◌∙◌}
use Rattle.tuple_bytes.specs.Items.{item_of}
use Rattle.store_inspect.proofs.Going.{spelled_at, one_more}
use Rattle.store_inspect.proofs.items.walked.Goals as goal

pub loop-i-preserved : goal.loop-i-preserved
loop-i-preserved c =
    let its = c.args.items.now in
    let i = c.loop-i.i in
    let spelled = spelled_at its c.as_slice-payload-items.result.now i c.payload-item.result c.as_slice-payload-items.ensures.value c.as_slice-payload-items.ensures.fit c.loop-i-test.true c.payload-item.is in
    one_more c.args.header.now its i c.loop-i.walk c.take_payload.new.self spelled.0 (c.in_ok-take_payload.ensures.value _ (ap item_of c.as_slice.ensures.value ∙ spelled.1)) c.loop-i.invariant

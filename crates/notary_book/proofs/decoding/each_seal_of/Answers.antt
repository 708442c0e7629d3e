use Rattle.byte_grammar.specs.Reading.{many}
use Rattle.notary_book.specs.Calls.{seal_at}
use Rattle.byte_grammar.proofs.Fronts.{goes_on, stops, is_done}
use Rattle.notary_book.proofs.decoding.each_seal_of.Goals as goal

pub returns : goal.returns
returns c = is_done seal_at c.loop.all c.args.count c.loop.counter c.loop.rest.now (many seal_at c.args.count c.args.bytes.now) c.loop-test.false c.loop.invariant

pub returns-in-None : goal.returns-in-None
returns-in-None c = stops seal_at c.loop.all c.args.count c.loop.counter c.loop.rest.now (many seal_at c.args.count c.args.bytes.now) c.loop-test.true (rw c.in-None.is at c.seal_of.ensures) c.loop.invariant

pub loop-preserved : goal.loop-preserved
loop-preserved c =
    let seen = rw c.in-Some.is at c.seal_of.ensures in
    rw c.in_ok-push-in-Some.ensures.ok (goes_on seal_at c.loop.all c.args.count c.loop.counter c.loop.rest.now c.in-Some.seal c.in-Some.after.now (many seal_at c.args.count c.args.bytes.now) c.loop-test.true seen c.loop.invariant)

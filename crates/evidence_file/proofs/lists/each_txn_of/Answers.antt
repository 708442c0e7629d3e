use Rattle.byte_grammar.specs.Reading.{many}
use Rattle.evidence_file.specs.Reading.{txn_at}
use Rattle.byte_grammar.proofs.Fronts.{goes_on, stops, is_done}
use Rattle.evidence_file.proofs.lists.each_txn_of.Goals as goal

pub returns : goal.returns
returns c = is_done txn_at c.loop.all c.args.count c.loop.counter c.loop.rest.now (many txn_at c.args.count c.args.bytes.now) c.loop-test.false c.loop.invariant

pub returns-in-None : goal.returns-in-None
returns-in-None c = stops txn_at c.loop.all c.args.count c.loop.counter c.loop.rest.now (many txn_at c.args.count c.args.bytes.now) c.loop-test.true (rw c.in-None.is at c.in_ok-txn.ensures) c.loop.invariant

pub loop-preserved : goal.loop-preserved
loop-preserved c =
    let seen = rw c.in-Some.is at c.in_ok-txn.ensures in
    rw c.in_ok-push-in-Some.ensures.ok (goes_on txn_at c.loop.all c.args.count c.loop.counter c.loop.rest.now c.in-Some.txn c.in-Some.after.now (many txn_at c.args.count c.args.bytes.now) c.loop-test.true seen c.loop.invariant)

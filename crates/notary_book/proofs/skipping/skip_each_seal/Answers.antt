use Rattle.byte_grammar.specs.Reading.{rest_of, many}
use Rattle.notary_book.specs.Calls.{seal_at}
use Rattle.byte_grammar.proofs.Skips.{many_goes, many_fails, many_ends}
use Rattle.notary_book.proofs.skipping.skip_each_seal.Goals as goal

pub returns-in_err-rest : goal.returns-in_err-rest
returns-in_err-rest c = rw c.from_residual.ensures (many_fails seal_at c.args.count c.loop.counter c.loop.rest.now (rest_of (many seal_at c.args.count c.args.bytes.now)) c.loop-test.true c.in_err-rest.ensures c.loop.invariant)

pub loop-preserved : goal.loop-preserved
loop-preserved c = many_goes seal_at c.args.count c.loop.counter c.loop.rest.now c.in_ok-rest.rest.now (rest_of (many seal_at c.args.count c.args.bytes.now)) c.loop-test.true c.in_ok-rest.ensures c.loop.invariant

pub returns : goal.returns
returns c = many_ends seal_at c.args.count c.loop.counter c.loop.rest.now (rest_of (many seal_at c.args.count c.args.bytes.now)) c.loop-test.false c.loop.invariant

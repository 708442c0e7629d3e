use Rattle.std.proofs.Common.{◌≡◌, true, false, arith}
use Rattle.notary_book.proofs.Payloads.{read_more, read_no_more, read_all, spelled_more, spelled_all}
use Rattle.notary_book.proofs.replay.read_pages.Goals as goal

pub loop-payload-preserved : goal.loop-payload-preserved
loop-payload-preserved c =
    let h = c.if-not-follows.false in
    let follows : c.in_ok-follows.follows ≡ true = grind (arith, h) in
    (read_more c.args.payloads.now c.loop-payload.payload-index c.payload-item.result c.as_slice.result.now c.loop-payload-test.true c.payload-item.is c.as_slice.ensures.value c.loop-payload.pages c.read_next.new.pages c.in_ok-follows.follows follows c.in_ok-follows.ensures.value c.loop-payload.invariant.0, spelled_more c.args.payloads.now c.loop-payload.payload-index c.payload-item.result c.as_slice.result.now c.loop-payload-test.true c.payload-item.is c.as_slice.ensures.value c.in_ok-follows.ensures.spelled c.loop-payload.invariant.1)

pub returns-then-not-follows : goal.returns-then-not-follows
returns-then-not-follows c =
    let h = c.if-not-follows.true in
    let stops : c.in_ok-follows.follows ≡ false = grind (arith, h) in
    record { value = read_no_more c.args.payloads.now c.loop-payload.payload-index c.payload-item.result c.as_slice.result.now c.loop-payload-test.true c.payload-item.is c.as_slice.ensures.value c.loop-payload.pages c.read_next.new.pages c.in_ok-follows.follows stops c.in_ok-follows.ensures.value c.loop-payload.invariant.0; spelled = tt }

pub returns : goal.returns
returns c = record { value = read_all c.args.payloads.now c.loop-payload.payload-index c.loop-payload.pages c.loop-payload-test.false c.loop-payload.invariant.0; spelled = spelled_all c.args.payloads.now c.loop-payload.payload-index c.loop-payload-test.false c.loop-payload.invariant.1 }

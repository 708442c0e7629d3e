use Rattle.std.proofs.Common.{take, drop}
use Rattle.txn_journal.specs.Reading.{Reading}
use Rattle.txn_journal.specs.Window.{seen_by}
use Rattle.txn_journal.proofs.Steps.{reading, stepped, moved}
use Rattle.txn_journal.proofs.records.Records.step.Goals as goal

pub returns-in-Some : goal.returns-in-Some
returns-in-Some g c =
    let i = c.self.inside in
    let r : Reading = reading i.place i.limit (take i.size (drop i.from (seen_by i.window))) i.window.begin (seen_by i.window) in
    let found = rw c.seen_from-ahead.ensures.value at c.in-Some.ensures in
    rw (← c.self.view_is) (record {
      steps = stepped g.S.Shape.shape r c.in-Some.payload.now c.self.invariant.0 found.value found.fits;
      moves = moved g.S.Shape.shape r c.in-Some.payload.now c.self.invariant.0 found.fits;
    })

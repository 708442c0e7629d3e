use Rattle.std.proofs.Common.{◌<◌, ◌≤◌, arith}
use Rattle.evidence_file.specs.Evidence.{ascend}
use Rattle.evidence_file.proofs.Steps.{entries_go_on, entries_stop, entries_end}
use Rattle.evidence_file.proofs.consistent.ascend.Goals as goal

pub returns-then-from : goal.returns-then-from
returns-then-from c =
    let low : c.entry-item.result.granule < c.loop-entry.from = omega (arith, c.from.ensures, c.if-from.true) in
    record { value = entries_stop c.loop-entry.from c.args.entries.now c.loop-entry.entry-index c.entry-item.result (ascend 0 c.args.entries.now) c.loop-entry-test.true c.entry-item.is low c.loop-entry.invariant }

pub loop-entry-preserved : goal.loop-entry-preserved
loop-entry-preserved c =
    let le : c.loop-entry.from ≤ c.entry-item.result.granule = omega (arith, c.from.ensures, c.if-from.false) in
    entries_go_on c.loop-entry.from c.args.entries.now c.loop-entry.entry-index c.entry-item.result c.from-from.result (ascend 0 c.args.entries.now) c.loop-entry-test.true c.entry-item.is le c.from-from.ensures c.loop-entry.invariant

pub returns : goal.returns
returns c = record { value = entries_end c.loop-entry.from c.args.entries.now c.loop-entry.entry-index (ascend 0 c.args.entries.now) c.loop-entry-test.false c.loop-entry.invariant }

use Rattle.std.proofs.Common.{◌+◌, Some, None, arith}
use Rattle.file_findings.proofs.Tails.{to_end, no_more, next_within, closed_after, open_after}
use Rattle.file_findings.proofs.tail.hidden.Goals as goal

pub returns-then-after-next : goal.returns-then-after-next
returns-then-after-next g c =
    let shape = g.S.Shape.shape in
    let found = to_end shape (c.args.gate + c.records.at) c.records.at c.args.after.now (Some c.in-Some.payload.now) c.in-Some.ensures.value in
    record { value = closed_after shape c.args.gate c.records.at c.args.after.now c.in-Some.payload.now found c.records.count c.records.invariant.all c.if-after-next.true }

pub records-preserved : goal.records-preserved
records-preserved g c =
    let shape = g.S.Shape.shape in
    let found = to_end shape (c.args.gate + c.records.at) c.records.at c.args.after.now (Some c.in-Some.payload.now) c.in-Some.ensures.value in
    record {
      inside = omega (arith, next_within shape c.args.gate c.records.at c.args.after.now c.in-Some.payload.now found);
      few = omega (arith, c.records.invariant.few);
      all = open_after shape c.args.gate c.records.at c.args.after.now c.in-Some.payload.now found c.records.count c.records.invariant.all c.if-after-next.false;
    }

pub returns : goal.returns
returns g c =
    let shape = g.S.Shape.shape in
    let none = to_end shape (c.args.gate + c.records.at) c.records.at c.args.after.now None (rw c.in_default.is at c.payload_after.ensures.value) in
    record { value = no_more shape c.args.gate c.args.after.now c.records.count c.records.at c.records.invariant.all none }

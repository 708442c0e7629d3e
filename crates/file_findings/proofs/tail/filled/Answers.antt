use Rattle.std.proofs.Common.{refl, ◌∙◌, arith}
use Rattle.file_findings.proofs.Tails.{filled_zero, filled_some}
use Rattle.file_findings.proofs.tail.filled.Goals as goal
use Rattle.file_findings.proofs.tail.filled.Goals.{then-byte-ne0, else-byte-ne0}

pub loop-i-preserved : goal.loop-i-preserved
loop-i-preserved c =
    let bytes = c.args.bytes.now in
    let i = c.loop-i.i in
    elim c.if-byte-ne0.branch [
      | then-byte-ne0 w ↦ record {
        value = w.count-is ∙ filled_some bytes i c.loop-i.count _ c.loop-i-test.true refl c.loop-i.invariant.value w.if-byte-ne0.true;
        few = omega (arith, w.count-is);
      }
      | else-byte-ne0 w ↦ record {
        value = w.count-is ∙ filled_zero bytes i c.loop-i.count _ c.loop-i-test.true refl c.loop-i.invariant.value w.if-byte-ne0.false;
        few = omega (arith, w.count-is, c.loop-i.invariant.few);
      }
    ]

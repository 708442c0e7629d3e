use Rattle.std.proofs.Common.{arith}
use Rattle.std.proofs.lemmas.Grind.{common_steps}
use Rattle.std.proofs.lemmas.Result.{on_ok_weaker}
use Rattle.file_findings.proofs.Putting.{kind_put}
use Rattle.file_findings.proofs.printing.Text.kind.Goals as goal

pub returns : goal.returns
returns c = record {
  ok = on_ok_weaker c.more.result (λ is. kind_put c.args.all.now c.args.kind c.in_ok-some.some.items _ c.args.self.now.bytes.items c.lines.new.self.bytes.items c.more.new.self.bytes.items c.min-listed.result _ c.in_ok-some.ensures.value (grind (arith, c.len.ensures, c.min-listed.ensures))
      (grind (arith, common_steps, c.deref.ensures.value)) c.in_ok-lines.ensures.ok (grind (arith, c.len-2.ensures)) is) c.more.ensures.ok;
}

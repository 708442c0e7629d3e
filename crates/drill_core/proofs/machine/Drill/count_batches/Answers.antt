use Rattle.std.proofs.Common.{ℕ, ◌+◌, ap}
use Rattle.drill_core.proofs.Ahead.{asked, some_filed, as_many}
use Rattle.drill_core.proofs.machine.Drill.count_batches.Goals as goal

pub returns-in-Ok : goal.returns-in-Ok
returns-in-Ok c = record {
  value = λ t at. some_filed t c.args.self.now at c.in-Some.id c.in-Ok.filed c.in-Some.is c.in-Ok.ensures.value;
  at = λ t at. asked t c.args.self.now at c.count.new.self c.count.ensures.same c.count.ensures.frame;
  faults = ap (λ (n : ℕ). c.args.self.now.disk.faults + n) (as_many c.count.result c.in-Ok.filed _ _ c.in-Ok.is c.count.ensures.counted);
}

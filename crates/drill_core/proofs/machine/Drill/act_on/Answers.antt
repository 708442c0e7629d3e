use Rattle.std.proofs.Common.{Err}
use Rattle.drill_core.specs.Drills.{crash_of}
use Rattle.drill_core.proofs.Ready.{ok_map}
use Rattle.drill_core.proofs.Coming.{acted_as, refused_acted, refused_only}
use Rattle.drill_core.proofs.machine.Drill.act_on.Goals as goal

pub returns-in-Err : goal.returns-in-Err
returns-in-Err c = record {
  value = λ t at. ok_map c.refuse_reading.result _ _ c.refuse_reading.ensures.value
      (λ answered is. acted_as (crash_of c.args.crash) t answered c.args.self.now c.args.self.now c.args.reading.now (Err c.in-Err.fail) c.in-Err.is
      (refused_acted (crash_of c.args.crash) t answered c.args.self.now c.args.self.now c.in-Err.fail (refused_only t c.args.self.now answered _ at is)));
}

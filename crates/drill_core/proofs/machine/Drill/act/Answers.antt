use Rattle.std.proofs.Common.{sym, ◌∙◌}
use Rattle.drill_core.specs.Drills.{crash_of}
use Rattle.drill_core.proofs.Ready.{ok_map}
use Rattle.drill_core.proofs.Coming.{event_acted, clock_acted, moment_line}
use Rattle.drill_core.proofs.machine.Drill.act.Goals as goal

pub returns-in-Drill : goal.returns-in-Drill
returns-in-Drill c = record {
  value = λ t at. ok_map c.bring.result _ _ (c.bring.ensures.value t at) (λ answered f. event_acted (crash_of c.args.crash) t answered c.args.self.now c.bring.new.self c.in-Drill.event c.args.line.now c.in-Drill.is f);
}

pub returns-in-SetsMoment : goal.returns-in-SetsMoment
returns-in-SetsMoment c = record {
  value = λ t at. ok_map c.set_clock.result _ _ (c.set_clock.ensures.value t at)
      (λ answered f. clock_acted (crash_of c.args.crash) t answered c.args.self.now c.set_clock.new.self c.in-SetsMoment.moment c.args.line.now
      (moment_line c.args.line.now c.in-SetsMoment.moment (sym c.kind.ensures.value ∙ c.in-SetsMoment.is)) f);
}

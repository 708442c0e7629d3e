use Rattle.std.proofs.Common.{ap, sym, subst}
use Rattle.stmt_text.specs.declared.event.Event.{Event}
use Rattle.timeline_model.specs.Lines.{brings}
use Rattle.timeline_model.specs.Timeline.{under}
use Rattle.drill_core.specs.Drills.{crash_of, IsBehind}
use Rattle.drill_core.specs.Taken.{Follows}
use Rattle.drill_core.proofs.Ready.{ok_map}
use Rattle.drill_core.proofs.Coming.{quiet_brought}
use Rattle.drill_core.proofs.machine.Drill.bring.Goals as goal

pub returns-in-Init : goal.returns-in-Init
returns-in-Init c = record {
  value = λ t at. ok_map c.init.result _ _ (c.init.ensures.value t at)
      (λ answered f. subst (λ (e : Event). Follows (IsBehind (crash_of c.args.crash)) (under (crash_of c.args.crash) t (brings t e)) answered c.args.self.now c.init.new.self) (sym c.in-Init.is) f);
}

pub returns-in-Crash : goal.returns-in-Crash
returns-in-Crash c = record {
  value = λ t at. ok_map c.set_crash.result _ _ (c.set_crash.ensures.value t at)
      (λ answered f. quiet_brought (crash_of c.args.crash) t answered c.args.self.now c.set_crash.new.self c.args.event.now _ (ap (brings t) c.in-Crash.is) f);
}

pub returns-in-Alter : goal.returns-in-Alter
returns-in-Alter c = record {
  value = λ t at. ok_map c.alter.result _ _ (c.alter.ensures.value t at)
      (λ answered f. quiet_brought (crash_of c.args.crash) t answered c.args.self.now c.alter.new.self c.args.event.now _ (ap (brings t) c.in-Alter.is) f);
}

pub returns-in-Cut : goal.returns-in-Cut
returns-in-Cut c = record {
  value = λ t at. ok_map c.cut.result _ _ (c.cut.ensures.value t at)
      (λ answered f. quiet_brought (crash_of c.args.crash) t answered c.args.self.now c.cut.new.self c.args.event.now _ (ap (brings t) c.in-Cut.is) f);
}

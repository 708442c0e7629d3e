use Rattle.std.proofs.Common.{◌≡◌, None, sym, ap, subst, ◌∙◌}
use Rattle.timeline_model.specs.Scene.{Scene}
use Rattle.drill_core.specs.declared.machine.Drill.{Drill}
use Rattle.drill_core.specs.Drills.{crash_of}
use Rattle.drill_core.specs.Taken.{IsEvent}
use Rattle.drill_core.proofs.Ready.{at_crash}
use Rattle.drill_core.proofs.Coming.{some_of, none_of, none_fails_behind, whole_event, entered_event}
use Rattle.drill_core.proofs.machine.Drill.line.Goals as goal
use Rattle.drill_core.proofs.machine.Drill.line.Goals.{then-is_some+in_ok-enter_anew, else-is_some}

pub returns : goal.returns
returns c = record {
  value = λ t at.
      let crash_is : t.crash ≡ crash_of c.take-crash.result = ap (λ (s : Scene). s.crash) at.left.fields ∙ ap crash_of (sym c.take-crash.ensures.value) in
      let none_is : crash_of c.take-crash.new.self ≡ None = ap crash_of c.take-crash.ensures.after in
      let acted = c.in_ok-answered.ensures.value (record t { crash = crash_of c.take-crash.new.self }) (at_crash t c.args.self.now at c.take-crash.new.self) in
      elim c.if-is_some.branch [
        | then-is_some+in_ok-enter_anew w ↦ subst (λ (d : Drill). IsEvent c.args.reading.now t c.in_ok-answered.answered c.args.self.now d) (sym w.self-is)
            (entered_event c.args.reading.now t c.in_ok-answered.answered c.args.self.now c.requires.reading c.requires.fits (crash_of c.take-crash.result) crash_is (crash_of c.take-crash.new.self) none_is c.take-crash.new.self
            c.act_on.new.self w.enter_anew.new.self (some_of c.take-crash.result (sym w.if-is_some.ensures)) acted (w.in_ok-enter_anew.ensures.value (none_fails_behind (crash_of c.take-crash.result) _ c.act_on.new.self acted.follows.at)))
        | else-is_some w ↦ subst (λ (d : Drill). IsEvent c.args.reading.now t c.in_ok-answered.answered c.args.self.now d) (sym w.self-is)
            (whole_event c.args.reading.now t c.in_ok-answered.answered c.args.self.now c.requires.reading c.requires.fits (crash_of c.take-crash.result) crash_is (crash_of c.take-crash.new.self) none_is c.take-crash.new.self
            c.act_on.new.self (none_of c.take-crash.result (sym w.if-is_some.ensures)) acted)
      ];
}

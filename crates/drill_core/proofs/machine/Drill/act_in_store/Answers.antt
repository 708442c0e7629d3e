use Rattle.std.proofs.Common.{◌∙◌, ap}
use Rattle.timeline_model.specs.Scene.{Scene}
use Rattle.drill_core.specs.Drills.{crash_of}
use Rattle.drill_core.proofs.Ready.{ok_map, ok_three, none_of}
use Rattle.drill_core.proofs.Whole.{none_acted}
use Rattle.drill_core.proofs.UnderCrash.{passed, stopped}
use Rattle.drill_core.proofs.machine.Drill.act_in_store.Goals as goal

pub returns-then-is_none : goal.returns-then-is_none
returns-then-is_none c = record {
  value = λ t at. ok_map c.refuse.result _ _ c.refuse.ensures.value
      (λ answered is. none_acted t c.args.line.now c.requires.is_line (crash_of c.args.crash) c.args.self.now answered (ap (λ (s : Scene). s.id) at.left.fields ∙ none_of c.args.self.now.id c.if-is_none.ensures) at is);
}

pub returns-in-Ok : goal.returns-in-Ok
returns-in-Ok c = record {
  value = λ t at. passed c.args.self.now c.calls_before_filing.new.self c.let_fail.new.self (crash_of c.args.crash) c.in_ok-before.before c.args.line.now c.requires.is_line c.requires.fits c.requires.few c.if-is_none.ensures c.in_ok-before.ensures.faults c.line.result c.line.new.self c.line.new.disk c.line.new.notary c.line.ensures.told c.line.ensures.disk_frame c.line.ensures.notary_frame c.line.ensures.disk_cause c.line.ensures.notary_cause t at (c.in_ok-before.ensures.at t at) (c.in_ok-let_fail.ensures.value (c.in_ok-before.ensures.at t at).left.none_fails) (c.in_ok-before.ensures.value t at) c.in-Ok.answered c.let_pass.new.self c.in-Ok.is c.let_pass.ensures.value;
}

pub returns-in-Err : goal.returns-in-Err
returns-in-Err c = record {
  value = λ t at. ok_three c.restart_after.result _ _ _ _ c.restart_after.ensures.value c.restart_after.ensures.fault c.restart_after.ensures.reply
      (λ answered restarted fault reply. stopped c.args.self.now c.calls_before_filing.new.self c.let_fail.new.self (crash_of c.args.crash) c.in_ok-before.before c.args.line.now c.requires.is_line c.requires.fits c.requires.few c.if-is_none.ensures c.in_ok-before.ensures.faults c.line.result c.line.new.self c.line.new.disk c.line.new.notary c.line.ensures.told c.line.ensures.disk_frame c.line.ensures.notary_frame c.line.ensures.disk_cause c.line.ensures.notary_cause t at (c.in_ok-before.ensures.at t at) (c.in_ok-let_fail.ensures.value (c.in_ok-before.ensures.at t at).left.none_fails) (c.in_ok-before.ensures.value t at) answered c.restart_after.new.self c.in-Err.fail c.in-Err.is fault restarted reply);
}

use Rattle.std.proofs.Common.{ℕ, ◌∙◌, subst}
use Rattle.store_world.specs.Standing.{IsEntered}
use Rattle.drill_core.specs.Drills.{NoneFails}
use Rattle.drill_core.specs.Devices.{LeavesNone, EntersAnew}
use Rattle.drill_core.proofs.Ready.{ok_map}
use Rattle.drill_core.proofs.DeviceFacts.{enters, enters_none}
use Rattle.drill_core.proofs.machine.Drill.enter_anew.Goals as goal

pub returns-in-Ok : goal.returns-in-Ok
returns-in-Ok c = record {
  value = λ none. enters c.args.self.now none c.in-Some.id c.in-Some.is c.enter.new.self c.enter.new.disk c.enter.ensures.frame c.enter.ensures.same (c.enter.ensures.id ∙ c.new.ensures.id) c.enter.result
      (subst (λ (n : ℕ). IsEntered n c.args.self.now.disk.bytes.items c.enter.result c.enter.new.self.opened) c.new.ensures.id c.enter.ensures.value) c.enter.ensures.sessions c.enter.ensures.is_old c.enter.ensures.audit c.in-Ok.is;
}

pub returns-in-Err : goal.returns-in-Err
returns-in-Err c = record {
  value = ok_map c.entered.result (λ done. LeavesNone c.in-Err.fail) (λ done. NoneFails c.args.self.now → EntersAnew c.args.self.now (record { alloc = c.args.self.now.alloc; id = c.args.self.now.id; world = c.enter.new.self; disk = c.enter.new.disk; notary = c.args.self.now.notary; clock = c.args.self.now.clock; crash = c.args.self.now.crash })) c.entered.ensures.value
      (λ done leaves none. enters_none c.args.self.now none c.in-Some.id c.in-Some.is c.enter.new.self c.enter.new.disk c.enter.ensures.frame c.enter.ensures.same (c.enter.ensures.id ∙ c.new.ensures.id) c.enter.result
      (subst (λ (n : ℕ). IsEntered n c.args.self.now.disk.bytes.items c.enter.result c.enter.new.self.opened) c.new.ensures.id c.enter.ensures.value) c.enter.ensures.sessions c.enter.ensures.is_old c.enter.ensures.audit c.in-Err.fail c.in-Err.is leaves c.in-Err.ensures.none);
}

use Rattle.drill_core.specs.Drills.{crash_of}
use Rattle.drill_core.proofs.Ready.{ok_map, ok_two}
use Rattle.drill_core.proofs.MadeStores.{was_made, was_taken, was_stopped}
use Rattle.drill_core.proofs.machine.Drill.make_store.Goals as goal

pub returns-in-Ok : goal.returns-in-Ok
returns-in-Ok c = record {
  value = λ stops few. ok_map c.say_ready.result _ _ c.say_ready.ensures.value
      (λ answered is. was_made c.args.header.now c.args.self.now (crash_of c.args.crash) stops few c.create_segmented.new.disk c.create_segmented.ensures.frame c.create_segmented.result c.create_segmented.ensures.told c.create_segmented.ensures.cause answered c.let_pass.new.self c.in-Ok.is c.let_pass.ensures.value is);
}

pub returns-in-Err-AlreadyThere : goal.returns-in-Err-AlreadyThere
returns-in-Err-AlreadyThere c = record {
  value = λ stops few. ok_map c.refuse.result _ _ c.refuse.ensures.value
      (λ answered is. was_taken c.args.header.now c.args.self.now (crash_of c.args.crash) stops few c.create_segmented.new.disk c.create_segmented.ensures.frame c.create_segmented.result c.create_segmented.ensures.told c.create_segmented.ensures.cause answered c.let_pass-in-Err-AlreadyThere.new.self c.in-Err-AlreadyThere.field-0 c.in-Err-AlreadyThere.is c.in-Err-AlreadyThere.field-0-is c.let_pass-in-Err-AlreadyThere.ensures.value is);
}

pub returns-in-Err-DiskFault : goal.returns-in-Err-DiskFault
returns-in-Err-DiskFault c = record {
  value = λ stops few. ok_two c.restart.result _ _ _ c.restart.ensures.value c.restart.ensures.reply
      (λ answered restarted reply. was_stopped c.args.header.now c.args.self.now (crash_of c.args.crash) stops few c.create_segmented.new.disk c.create_segmented.ensures.frame c.create_segmented.result c.create_segmented.ensures.told c.create_segmented.ensures.cause answered c.restart.new.self c.in-Err-DiskFault.field-0 c.in-Err-DiskFault.is c.in-Err-DiskFault.field-0-is restarted reply);
}

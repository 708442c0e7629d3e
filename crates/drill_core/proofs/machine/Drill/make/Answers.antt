use Rattle.std.proofs.Common.{arith}
use Rattle.drill_core.specs.Drills.{crash_of}
use Rattle.drill_core.proofs.Ready.{ok_map}
use Rattle.drill_core.proofs.MadeStores.{made_left}
use Rattle.drill_core.proofs.machine.Drill.make.Goals as goal

pub returns : goal.returns
returns c = record {
  value = λ none.
      let will = c.in_ok-let_fail.ensures.value none in
      let fewer = will.faults in
      ok_map c.make_store.result _ _ (c.make_store.ensures.value will.stopping (omega (arith, fewer, c.requires.few)))
      (λ answered f. made_left c.args.self.now (crash_of c.args.crash) _ answered c.let_fail.new.self c.make_store.new.self (omega (arith, c.if-self-gt-MAX_MOMENT.false)) will f);
}

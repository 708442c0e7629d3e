use Rattle.drill_core.specs.Drills.{crash_of}
use Rattle.drill_core.proofs.MadeStores.{none_named, init_entered}
use Rattle.drill_core.proofs.machine.Drill.init.Goals as goal

pub returns : goal.returns
returns c = record {
  value = λ t at. init_entered c.args.self.now c.args.id c.args.width c.args.k c.args.algs (crash_of c.args.crash) t at c.in_ok-answered.answered c.make.new.self c.enter_anew.new.self
      (c.in_ok-answered.ensures.value (none_named c.args.self.now c.args.id c.args.width c.args.k c.args.algs (crash_of c.args.crash) t at))
      (c.in_ok-enter_anew.ensures.value (c.in_ok-answered.ensures.value (none_named c.args.self.now c.args.id c.args.width c.args.k c.args.algs (crash_of c.args.crash) t at)).at.none_fails);
}

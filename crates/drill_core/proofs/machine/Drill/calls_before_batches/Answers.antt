use Rattle.std.proofs.Common.{subst}
use Rattle.drill_core.proofs.Ready.{ok_map}
use Rattle.drill_core.proofs.Ahead.{CountsFor, come_before}
use Rattle.drill_core.proofs.machine.Drill.calls_before_batches.Goals as goal

pub returns-in-Some : goal.returns-in-Some
returns-in-Some c = record {
  value = λ t at many. ok_map c.calls_of_frontier.result _ _ c.calls_of_frontier.ensures.value
      (λ count counts. come_before t c.args.self.now c.args.filed count at (subst (CountsFor c.args.self.now.clock c.args.filed count) c.in-Some.ensures.value counts) many);
}

pub returns-in-None : goal.returns-in-None
returns-in-None c = record {
  value = λ t at many. come_before t c.args.self.now c.args.filed 0 at (subst (CountsFor c.args.self.now.clock c.args.filed 0) c.in-None.ensures.value tt) many;
}

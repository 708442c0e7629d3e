use Rattle.std.proofs.Common.{ap, arith}
use Rattle.store_world.specs.declared.answered.Answered.{Answered}
use Rattle.drill_core.proofs.Ready.{ok_map, at_clock}
use Rattle.drill_core.proofs.machine.Drill.set_clock.Goals as goal

pub returns : goal.returns
returns c = record {
  value = λ t at. ok_map c.say.result _ _ c.say.ensures.value (λ answered is. record { at = at_clock t c.args.self.now at c.args.moment; text = ap (λ (a : Answered). a.text) is; refused = ap (λ (a : Answered). a.refused) is; faults = omega arith });
}

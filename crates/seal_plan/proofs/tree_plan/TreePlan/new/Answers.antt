use Rattle.std.proofs.Common.{◌≡◌, sym, subst}
use Rattle.tile_seals.specs.Places.{planned_forests}
use Rattle.tile_seals.specs.Kept.{Planned}
use Rattle.seal_plan.proofs.tree_plan.TreePlan.new.Goals as goal

pub invariant_of-result : goal.invariant_of-result
invariant_of-result g c = subst (λ (p : Planned). c.in_ok-forests.forests ≡ planned_forests p.history p.tiles) (sym c.new.ensures.value) c.in_ok-forests.ensures.value

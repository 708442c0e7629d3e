use Rattle.std.proofs.Common.{◌≡◌, sym, subst}
use Rattle.tile_seals.specs.Places.{planned_parts}
use Rattle.tile_seals.specs.Kept.{Planned}
use Rattle.seal_plan.proofs.tile_plan.TilePlan.new.Goals as goal

pub invariant_of-result : goal.invariant_of-result
invariant_of-result g c = subst (λ (p : Planned). c.in_ok-parts.parts ≡ planned_parts p.history p.tiles) (sym c.new.ensures.value) c.in_ok-parts.ensures.value

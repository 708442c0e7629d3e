use Rattle.std.proofs.Common.{ap, ◌∙◌}
use Rattle.tile_seals.specs.Kept.{Planned}
use Rattle.tile_seals.specs.Places.{planned_parts}
use Rattle.seal_plan.proofs.tile_plan.TilePlan.digest.Goals as goal

pub returns : goal.returns
returns c =
    let p = c.args.self.now in
    let found = c.digest.ensures.value p.history p.tiles c.eras.ensures.value (c.self.invariant ∙ ap (λ (x : Planned). planned_parts x.history x.tiles) c.self.view_is) in
    record { value = found.value; planned = found.planned }

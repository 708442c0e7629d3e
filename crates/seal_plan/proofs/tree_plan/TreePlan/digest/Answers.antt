use Rattle.std.proofs.Common.{ap, ◌∙◌}
use Rattle.tile_seals.specs.Places.{planned_forests}
use Rattle.tile_seals.specs.Kept.{Planned}
use Rattle.seal_plan.proofs.tree_plan.TreePlan.digest.Goals as goal

pub returns : goal.returns
returns c =
    let p = c.args.self.now in
    let found = c.digest.ensures.value p.history p.tiles (c.self.invariant ∙ ap (λ (x : Planned). planned_forests x.history x.tiles) c.self.view_is) c.tiles-tiles.ensures.within in
    record { value = found.value; planned = found.planned }

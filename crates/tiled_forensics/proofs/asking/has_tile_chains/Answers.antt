use Rattle.std.proofs.Common.{ap, ◌∙◌}
use Rattle.digest_model.specs.Layout.{Layout, has_tile_chains}
use Rattle.policy_eras.proofs.Histories.{layout_is}
use Rattle.tiled_forensics.proofs.asking.has_tile_chains.Goals as goal

pub returns : goal.returns
returns c = c.has_tile_chains.ensures.value ∙ ap (λ (l : Layout). has_tile_chains l c.args.tile) (layout_is c.args.plan.now.history c.eras.ensures.value)

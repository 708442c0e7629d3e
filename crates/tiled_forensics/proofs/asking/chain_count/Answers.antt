use Rattle.std.proofs.Common.{ap, ◌∙◌}
use Rattle.digest_model.specs.Layout.{Layout, exponent}
use Rattle.policy_eras.proofs.Histories.{layout_is}
use Rattle.tiled_forensics.proofs.asking.chain_count.Goals as goal

pub returns-clause-value : goal.returns-clause-value
returns-clause-value c = c.exponent.ensures.value ∙ ap (λ (l : Layout). exponent l c.args.tile) (layout_is c.args.plan.now.history c.eras.ensures.value)

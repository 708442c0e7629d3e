use Rattle.std.proofs.Common.{ap, ◌∙◌, arith}
use Rattle.history_model.specs.History.{history}
use Rattle.digest_model.specs.Layout.{Layout, layout, first_granule}
use Rattle.policy_eras.proofs.Histories.{layout_is}
use Rattle.seal_plan.proofs.tile_plan.hash_parts.Goals as goal

pub parts_over-requires-clause-within : goal.parts_over-requires-clause-within
parts_over-requires-clause-within g c =
    (let is = ap (λ (l : Layout). first_granule l c.args.tiles) (layout_is (history c.args.header.now c.args.items.now) c.requires.eras) in omega (arith, is, c.requires.within))

pub parts_over-requires-clause-some : goal.parts_over-requires-clause-some
parts_over-requires-clause-some g c = (history c.args.header.now c.args.items.now, c.requires.eras, (λ some. c.deref.ensures.value ∙ c.in_ok-granules.ensures.value some))

pub returns-clause-value : goal.returns-clause-value
returns-clause-value g c = c.parts_over.ensures.value (history c.args.header.now c.args.items.now) c.requires.eras (λ some. c.deref.ensures.value ∙ c.in_ok-granules.ensures.value some)

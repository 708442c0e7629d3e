use Rattle.std.proofs.Common.{arith}
use Rattle.digest_model.specs.Layout.{layout_by}
use Rattle.policy_eras.specs.Policy.{policy}
use Rattle.policy_eras.proofs.Reaching.{head_begins, tile_at_most, tile_is, alone_tile}
use Rattle.policy_eras.proofs.finding.tile_at.Goals as goal

pub era_within-era-requires : goal.era_within-era-requires
era_within-era-requires c = (let place = head_begins c.args.first c.args.later.now c.requires.eras in omega (arith, place))

pub overflow_add-result : goal.overflow_add-result
overflow_add-result c =
    let is = tile_is c.args.first c.args.later.now c.args.granule c.era_within-era.result c.requires.eras c.era_within-era.ensures in
    let few = tile_at_most (layout_by (policy c.args.first c.args.later.now)) c.args.granule in
    let within = c.requires.within in
    omega (arith, is, few, within)

pub returns-then-is_empty : goal.returns-then-is_empty
returns-then-is_empty c = alone_tile c.args.first c.args.later.now c.args.granule c.requires.eras c.if-is_empty.ensures

pub returns : goal.returns
returns c = tile_is c.args.first c.args.later.now c.args.granule c.era_within-era.result c.requires.eras c.era_within-era.ensures

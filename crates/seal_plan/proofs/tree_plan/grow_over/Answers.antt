use Rattle.std.proofs.Common.{◌≡◌, ℕ, ◌+◌, ◌≤◌, sym, ap, ◌∙◌, arith}
use Rattle.digest_model.specs.Layout.{Layout, layout, layout_by, first_granule}
use Rattle.digest_model.proofs.Layouts.{ascends}
use Rattle.policy_eras.proofs.Histories.{layout_is}
use Rattle.tile_seals.specs.Places.{planned_forests}
use Rattle.seal_plan.proofs.OwnLeaves.{own_leaves, own_size, all_size}
use Rattle.seal_plan.proofs.tree_plan.grow_over.Goals as goal

pub loop-tile-init : goal.loop-tile-init
loop-tile-init c = λ h eras granules were. were

pub leaves_of_tile-own-requires-clause-within : goal.leaves_of_tile-own-requires-clause-within
leaves_of_tile-own-requires-clause-within c =
    let up = ascends (layout_by c.args.eras.now) (c.loop-tile.tile + 1) c.args.tiles (omega arith) in
    omega (arith, up, c.requires.within)

pub leaves_of_tile-own-requires-clause-long : goal.leaves_of_tile-own-requires-clause-long
leaves_of_tile-own-requires-clause-long c =
    let up = ascends (layout_by c.args.eras.now) (c.loop-tile.tile + 1) c.args.tiles (omega arith) in
    let long = all_size c.requires.some.0 c.args.eras.now c.args.tiles c.args.granules.now c.requires.some.1 c.requires.some.2 in
    omega (arith, up, long)

pub add-requires-clause-granules : goal.add-requires-clause-granules
add-requires-clause-granules c = λ has.
    own_size (layout_by c.args.eras.now) c.loop-tile.tile c.args.tiles c.args.granules.now c.leaves_of_tile-own.result.now c.leaves_of_tile-own.ensures.value (omega arith)
    (all_size c.requires.some.0 c.args.eras.now c.args.tiles c.args.granules.now c.requires.some.1 c.requires.some.2)

pub add-requires-clause-some : goal.add-requires-clause-some
add-requires-clause-some c =
    let h = c.requires.some.0 in
    let up = ascends (layout c.requires.some.0) (c.loop-tile.tile + 1) c.args.tiles (omega arith) in
    let same = ap (λ (l : Layout). first_granule l c.args.tiles) (layout_is h c.requires.some.1) in
    (h, c.requires.some.1, c.loop-tile.invariant h c.requires.some.1 c.requires.some.2 c.requires.some.3, omega (arith, up, same, c.requires.within))

pub loop-tile-preserved : goal.loop-tile-preserved
loop-tile-preserved c = λ h eras granules were.
    c.in_ok-add.ensures.value h eras (c.loop-tile.invariant h eras granules were)
    (λ has. own_leaves h c.args.eras.now c.loop-tile.tile c.args.tiles c.args.granules.now c.leaves_of_tile-own.result.now eras (omega arith) granules c.leaves_of_tile-own.ensures.value)

pub returns : goal.returns
returns c = record {
  value = λ h eras granules were. (let all : c.loop-tile.tile ≡ c.args.tiles = omega arith in c.loop-tile.invariant h eras granules were ∙ ap (planned_forests h) all);
}

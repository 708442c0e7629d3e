use Rattle.std.proofs.Common.{◌≡◌, ℕ, ◌+◌, ◌<◌, ◌≤◌, true, List, length, sym, ap, subst, ◌∙◌, arith}
use Rattle.history_model.specs.History.{History}
use Rattle.digest_model.specs.Layout.{Layout, Policy, layout, layout_by, policy_of, first_granule, has_tile_chains}
use Rattle.digest_model.proofs.Layouts.{ascends}
use Rattle.policy_eras.proofs.Histories.{layout_is}
use Rattle.tile_seals.specs.Places.{leaves_of, planned_parts}
use Rattle.tile_seals.proofs.SideBySide.{few_parts}
use Rattle.seal_plan.specs.Plan.{SomeTile}
use Rattle.seal_plan.proofs.OwnLeaves.{own_leaves, own_size, all_size}
use Rattle.seal_plan.proofs.tile_plan.parts_over.Goals as goal

-- where a tile has tile chains the digests of all granules are there
module _ (h : History) (eras : Policy) (tile tiles : ℕ) (granules : List (List ℕ)) (e : eras ≡ policy_of h) (are : SomeTile has_tile_chains (layout h) tiles → granules ≡ leaves_of h (first_granule (layout h) tiles)) (below : tile < tiles) where
  hashed : has_tile_chains (layout_by eras) tile ≡ true → granules ≡ leaves_of h (first_granule (layout h) tiles)
  hashed has = are (tile, below, subst (λ (l : Layout). has_tile_chains l tile ≡ true) (layout_is h e) has)

  count : has_tile_chains (layout_by eras) tile ≡ true → length granules ≡ first_granule (layout_by eras) tiles
  count has = all_size h eras tiles granules e (hashed has)

pub loop-tile-init : goal.loop-tile-init
loop-tile-init c = λ h eras granules. c.new-parts.ensures.value h

pub own_leaves-own-requires-clause-within : goal.own_leaves-own-requires-clause-within
own_leaves-own-requires-clause-within c =
    let up = ascends (layout_by c.args.eras.now) (c.loop-tile.tile + 1) c.args.tiles (omega arith) in
    omega (arith, up, c.requires.within)

pub own_leaves-own-requires-clause-long : goal.own_leaves-own-requires-clause-long
own_leaves-own-requires-clause-long c = λ has.
    (let up = ascends (layout_by c.args.eras.now) (c.loop-tile.tile + 1) c.args.tiles (omega arith) in
    let long = count c.requires.some.0 c.args.eras.now c.loop-tile.tile c.args.tiles c.args.granules.now c.requires.some.1 c.requires.some.2 (omega arith) has in
    omega (arith, up, long))

pub add-requires-clause-few : goal.add-requires-clause-few
add-requires-clause-few c =
    let h = c.requires.some.0 in
    let same = ap (λ (x : List (List ℕ) × List ℕ). length x.0) (c.loop-tile.invariant h c.requires.some.1 c.requires.some.2) in
    let few = few_parts h c.loop-tile.tile in
    let up = ascends (layout c.requires.some.0) c.loop-tile.tile c.args.tiles (omega arith) in
    let all = ap (λ (l : Layout). first_granule l c.args.tiles) (layout_is h c.requires.some.1) in
    omega (arith, same, few, up, all, c.requires.within)

pub add-requires-clause-granules : goal.add-requires-clause-granules
add-requires-clause-granules c = λ has.
    own_size (layout_by c.args.eras.now) c.loop-tile.tile c.args.tiles c.args.granules.now c.own_leaves-own.result.now (c.own_leaves-own.ensures.value has) (omega arith)
    (count c.requires.some.0 c.args.eras.now c.loop-tile.tile c.args.tiles c.args.granules.now c.requires.some.1 c.requires.some.2 (omega arith) has)

pub loop-tile-preserved : goal.loop-tile-preserved
loop-tile-preserved c = λ h eras granules.
    c.in_ok-add.ensures.value h eras (c.loop-tile.invariant h eras granules)
    (λ ours. (let has = subst (λ (l : Layout). has_tile_chains l c.loop-tile.tile ≡ true) (sym (layout_is h eras)) ours in
    own_leaves h c.args.eras.now c.loop-tile.tile c.args.tiles c.args.granules.now c.own_leaves-own.result.now eras (omega arith)
    (hashed h c.args.eras.now c.loop-tile.tile c.args.tiles c.args.granules.now eras granules (omega arith) has) (c.own_leaves-own.ensures.value has)))

pub returns : goal.returns
returns c = record {
  value = λ h eras granules. (let all : c.loop-tile.tile ≡ c.args.tiles = omega arith in c.loop-tile.invariant h eras granules ∙ ap (planned_parts h) all);
}

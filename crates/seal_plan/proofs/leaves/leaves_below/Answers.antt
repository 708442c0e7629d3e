use Rattle.std.proofs.Common.{List, map, sym, ap, subst, ◌∙◌, arith}
use Rattle.std.specs.List.{All}
use Rattle.history_model.specs.History.{history}
use Rattle.digest_model.specs.Digests.{granule_over}
use Rattle.digest_model.specs.Layout.{layout, first_granule}
use Rattle.digest_model.specs.Plain.{IsShort}
use Rattle.cumulative_chain.specs.Tiles.{Granule}
use Rattle.seal_plan.proofs.Cums.{leaves_are, all_short}
use Rattle.seal_plan.proofs.Seen.{few_all}
use Rattle.seal_plan.proofs.leaves.leaves_below.Goals as goal

pub granule_digests-requires : goal.granule_digests-requires
granule_digests-requires g c =
    let h = history c.args.header.now c.args.items.now in
    subst (λ (x : List Granule). All (λ (y : Granule). All IsShort y.1) x) (sym c.in_ok-granules.ensures.value) (all_short h (first_granule (layout h) c.args.tiles) c.requires.history)

pub returns-in_err-digests-clause-steps : goal.returns-in_err-digests-clause-steps
returns-in_err-digests-clause-steps g c =
    let h = history c.args.header.now c.args.items.now in
    let all = few_all c.args.header.now c.args.items.now (first_granule (layout h) c.args.tiles) c.in_ok-granules.granules c.in_ok-granules.ensures.value in
    omega (arith, all, c.granule_digests.ensures.steps)

pub returns-clause-value : goal.returns-clause-value
returns-clause-value g c =
    let h = history c.args.header.now c.args.items.now in
    c.in_ok-digests.ensures.value
    ∙ ap (map (λ (x : Granule). granule_over x.0 x.1)) c.in_ok-granules.ensures.value
    ∙ leaves_are h (first_granule (layout h) c.args.tiles)

pub returns-clause-steps : goal.returns-clause-steps
returns-clause-steps g c =
    let h = history c.args.header.now c.args.items.now in
    let all = few_all c.args.header.now c.args.items.now (first_granule (layout h) c.args.tiles) c.in_ok-granules.granules c.in_ok-granules.ensures.value in
    omega (arith, all, c.granule_digests.ensures.steps)

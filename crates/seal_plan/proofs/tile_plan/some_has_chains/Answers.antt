use Rattle.std.proofs.Common.{◌≡◌, ◌∙◌, sym, ap, inl, inr, arith}
use Rattle.std.proofs.lemmas.Bool.{cases_eq}
use Rattle.digest_model.specs.Layout.{layout_by, has_tile_chains}
use Rattle.seal_plan.proofs.tile_plan.some_has_chains.Goals as goal

pub loop-tile-preserved : goal.loop-tile-preserved
loop-tile-preserved c = λ k below. elim (cases_eq k c.loop-tile.tile) [
  | inl same ↦ ap (has_tile_chains (layout_by c.args.eras.now)) same ∙ sym c.has_tile_chains.ensures.value ∙ c.if-has_tile_chains.false
  | inr other ↦ c.loop-tile.invariant k (omega (arith, below, other))
]

pub returns : goal.returns
returns c = record { none = λ is tile below. c.loop-tile.invariant tile (omega (arith, below)) }

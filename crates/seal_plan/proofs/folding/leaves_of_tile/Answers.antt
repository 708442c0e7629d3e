use Rattle.std.proofs.Common.{ℕ, ◌+◌, ◌-◌, take, drop, ap, ◌∙◌, arith}
use Rattle.digest_model.specs.Layout.{first_granule, layout_by}
use Rattle.digest_model.proofs.Layouts.{counts, ascends}
use Rattle.seal_plan.proofs.folding.leaves_of_tile.Goals as goal

pub overflow_add-tile : goal.overflow_add-tile
overflow_add-tile c = (let many = counts (layout_by c.args.eras.now) (c.args.tile + 1) in omega (arith, many, c.requires.within))

pub between-requires-clause-order : goal.between-requires-clause-order
between-requires-clause-order c = (let up = ascends (layout_by c.args.eras.now) c.args.tile (c.args.tile + 1) (omega arith) in omega (arith, up, c.first-first.ensures.value, c.first-end.ensures.value))

pub returns : goal.returns
returns c = record {
  value = c.between.ensures ∙ ap (λ (n : ℕ). take (n - c.first-first.result) (drop c.first-first.result c.args.leaves.now)) c.first-end.ensures.value
      ∙ ap (λ (n : ℕ). take (first_granule (layout_by c.args.eras.now) (c.args.tile + 1) - n) (drop n c.args.leaves.now)) c.first-first.ensures.value;
}

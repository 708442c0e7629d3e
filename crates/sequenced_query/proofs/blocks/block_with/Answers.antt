use Rattle.std.proofs.Common.{ℕ, ◌<◌, ◌≤◌, get_or, sym, subst, arith}
use Rattle.sequenced_query.specs.Blocks.{IsInside}
use Rattle.sequenced_query.proofs.Blocked.{around_more, inside_first}
use Rattle.sequenced_query.proofs.blocks.block_with.Goals as goal

pub loop-count-preserved : goal.loop-count-preserved
loop-count-preserved c =
    let es = c.args.entries.now in
    let some : 0 < c.loop-count.count = omega (arith, c.loop-count-test.true) in
    record {
      within = omega (arith, c.block_start-count.ensures.before, c.loop-count.invariant.within);
      own = subst (IsInside c.args.part) (sym c.around-block.ensures.value) (inside_first c.args.part c.loop-count.block _ c.loop-count.invariant.own);
      others = λ j d low high. subst (IsInside (get_or es j d).spot.part) (sym c.around-block.ensures.value)
          (around_more es c.requires c.loop-count.count c.loop-count.block _ some c.loop-count.invariant.within c.loop-count.invariant.others j d (subst (λ (n : ℕ). n ≤ j) c.block_start-count.ensures.value low) high);
    }

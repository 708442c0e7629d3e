use Rattle.std.proofs.Common.{List, sym, subst}
use Rattle.tuple_bytes.specs.declared.item.Item.{Item}
use Rattle.history_model.specs.History.{history}
use Rattle.seal_plan.specs.Plan.{planned_of, IsScope}
use Rattle.seal_plan.proofs.scope.Scope.new.Goals as goal

pub invariant_of-result : goal.invariant_of-result
invariant_of-result c =
    subst (λ (x : List Item). IsScope (planned_of (history c.args.header.now x) c.args.tiles) c.args.eras) (sym c.of.ensures)
    (record { fits = c.requires.fits; within = c.requires.within; policy = c.requires.eras })

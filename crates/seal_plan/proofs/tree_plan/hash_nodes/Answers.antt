use Rattle.std.proofs.Common.{◌≡◌, ℕ, ◌<◌, false, sym, ap, subst, ◌∙◌, arith}
use Rattle.history_model.specs.History.{history}
use Rattle.digest_model.specs.Layout.{Layout, layout, first_granule, has_tree}
use Rattle.policy_eras.proofs.Histories.{layout_is}
use Rattle.seal_plan.proofs.Bare.{bare}
use Rattle.seal_plan.proofs.tree_plan.hash_nodes.Goals as goal

pub returns-then-not-some_has_tree-clause-value : goal.returns-then-not-some_has_tree-clause-value
returns-then-not-some_has_tree-clause-value g c =
    let h = history c.args.header.now c.args.items.now in
    c.in_ok-forests.ensures.value h c.requires.eras
    ∙ bare h c.args.tiles (λ tile below. subst (λ (l : Layout). has_tree l tile ≡ false) (layout_is h c.requires.eras) (c.some_has_tree.ensures.none c.if-not-some_has_tree.true tile below))

pub grow_over-requires-clause-within : goal.grow_over-requires-clause-within
grow_over-requires-clause-within g c =
    (let is = ap (λ (l : Layout). first_granule l c.args.tiles) (layout_is (history c.args.header.now c.args.items.now) c.requires.eras) in omega (arith, is, c.requires.within))

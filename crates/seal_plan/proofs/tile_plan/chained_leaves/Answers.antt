use Rattle.std.proofs.Common.{◌≡◌, ℕ, true, false, IfOk, sym, subst, ◌∙◌}
use Rattle.std.proofs.lemmas.Bool.{false≢true}
use Rattle.std.proofs.lemmas.Result.{IfOk-weaker}
use Rattle.history_model.specs.History.{history}
use Rattle.digest_model.specs.Layout.{Layout, layout, has_tile_chains}
use Rattle.policy_eras.proofs.Histories.{layout_is}
use Rattle.seal_plan.proofs.tile_plan.chained_leaves.Goals as goal

pub returns-then-not-some_has_chains-clause-value : goal.returns-then-not-some_has_chains-clause-value
returns-then-not-some_has_chains-clause-value g c = λ some.
    (let own = layout_is (history c.args.header.now c.args.items.now) c.requires.eras in
    let has = subst (λ (l : Layout). has_tile_chains l some.0 ≡ true) (sym own) some.2 in
    absurd (false≢true (sym (c.some_has_chains.ensures.none c.if-not-some_has_chains.true some.0 some.1) ∙ has)))

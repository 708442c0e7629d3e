use Rattle.std.proofs.Common.{◌≡◌, ℕ, List, length, Option, Some, None, rules, sym, ap, ◌∙◌}
use Rattle.tuple_bytes.specs.declared.item.Item.{Item}
use Rattle.history_model.specs.History.{history}
use Rattle.digest_model.specs.Layout.{Layout, Policy, layout, layout_by, policy_of}
use Rattle.policy_eras.proofs.Histories.{layout_is}
use Rattle.store_engine.specs.Opened.{Opened}
use Rattle.store_engine.specs.Refusals.{tail_of}
use Rattle.validator.specs.Notarizing.{Heard, frontier_for}
use Rattle.validator.specs.Reaching.{frontier_calls}
use Rattle.drill_core.proofs.filing.calls_of_frontier.Goals as goal

-- of all items with the eras of the store
needed : (s : Opened) (items : List Item) (eras : Policy) (now filed : ℕ) (heard : Heard) (need : Option ℕ) {found : Option ℕ} → s.eras ≡ policy_of (history s.header items) → filed ≡ heard.count → eras ≡ s.eras
    → found ≡ frontier_for (layout_by eras) (tail_of s) now filed → found ≡ need → length (frontier_calls s need) ≡ length (frontier_calls s (frontier_for (layout (history s.header items)) (tail_of s) now heard.count))
needed s items eras now filed heard need policy many one is same =
    let alike = layout_is (history s.header items) (one ∙ policy) in
    ap (λ (o : Option ℕ). length (frontier_calls s o)) (sym same ∙ is ∙ ap (λ (l : Layout). frontier_for l (tail_of s) now filed) alike ∙ ap (frontier_for (layout (history s.header items)) (tail_of s) now) many)

pub returns-in-Ok-Some : goal.returns-in-Ok-Some
returns-in-Ok-Some c = record {
  value = λ items heard policy filed free.
      c.from.ensures ∙ c.frontier_calls.ensures.each c.in-Ok-Some.field-0-0
      ∙ needed c.args.store.now items c.eras.result.now c.args.now c.args.filed heard (Some c.in-Ok-Some.field-0-0) policy filed c.eras.ensures.value c.in-Ok-Some.ensures.value c.in-Ok-Some.field-0-is;
}

pub returns-in-Ok-None : goal.returns-in-Ok-None
returns-in-Ok-None c = record {
  value = λ items heard policy filed free.
      needed c.args.store.now items c.eras.result.now c.args.now c.args.filed heard None policy filed c.eras.ensures.value c.in-Ok-None.ensures.value (search rules);
}

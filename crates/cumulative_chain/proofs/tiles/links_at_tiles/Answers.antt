use Rattle.std.proofs.Common.{◌≡◌, ℕ, ◌+◌, ◌≤◌, List, IfOk, OnOk, length, map, sym, ap, subst, ◌∙◌}
use Rattle.digest_model.specs.Layout.{layout_by}
use Rattle.cumulative_chain.specs.Tiles.{Ascend, last_end, link_below, spelled_below}
use Rattle.cumulative_chain.proofs.Ends.{ends_ascend, ends_last, links_of_tiles}
use Rattle.cumulative_chain.proofs.tiles.links_at_tiles.Goals as goal

pub links_at_ends-requires-clause-ends : goal.links_at_ends-requires-clause-ends
links_at_ends-requires-clause-ends g c =
    let is = c.as_slice.ensures.value ∙ c.in_ok-ends.ensures.value in
    subst (λ (ends : List ℕ). Ascend ends) (sym is) (ends_ascend (layout_by c.args.eras.now) c.args.tiles)

pub returns-clause-value : goal.returns-clause-value
returns-clause-value g c =
    let is = c.as_slice.ensures.value ∙ c.in_ok-ends.ensures.value in
    let links = ap (map (link_below c.args.header.now c.args.granules.now)) is ∙ links_of_tiles c.args.header.now (layout_by c.args.eras.now) c.args.granules.now c.args.tiles in
    subst (λ (xs : List (List ℕ)). IfOk c.links_at_ends.result (λ links. links.items ≡ xs)) links c.links_at_ends.ensures.value

pub returns-clause-steps : goal.returns-clause-steps
returns-clause-steps g c =
    let is = c.as_slice.ensures.value ∙ c.in_ok-ends.ensures.value in
    subst (λ (end : ℕ). OnOk c.links_at_ends.result (c.links_at_ends.new.steps ≡ c.args.steps.now + length (spelled_below c.args.granules.now end)))
    (ap last_end is ∙ ends_last (layout_by c.args.eras.now) c.args.tiles) c.links_at_ends.ensures.steps

pub returns-clause-few : goal.returns-clause-few
returns-clause-few g c =
    let is = c.as_slice.ensures.value ∙ c.in_ok-ends.ensures.value in
    subst (λ (end : ℕ). c.links_at_ends.new.steps ≤ c.args.steps.now + length (spelled_below c.args.granules.now end))
    (ap last_end is ∙ ends_last (layout_by c.args.eras.now) c.args.tiles) c.links_at_ends.ensures.few

use Rattle.std.proofs.Common.{◌≡◌, ◌<◌, ◌≤◌, ◌∙◌, sym, ap, length, arith}
use Rattle.std.proofs.lemmas.Result.{IfOk-weaker, on_ok_weaker}
use Rattle.std.proofs.lemmas.List.FromFn.{length-map-range_with_len}
use Rattle.digest_model.specs.Digests.{cum}
use Rattle.digest_model.specs.Layout.{Policy, layout_by, first_granule, max_granules}
use Rattle.chain_state.specs.Chained.{history_of}
use Rattle.audit_steps.proofs.KeptLinks.{closed_links, linked, first_of, past_last}
use Rattle.audit_steps.proofs.linking.link_ends.Goals as goal

pub returns-then-end-from-clause-value : goal.returns-then-end-from-clause-value
returns-then-end-from-clause-value c = λ h chain.
    (let over : max_granules < c.first-end.result = omega (arith, c.if-end-from.true) in
    linked c.args.chains.now h chain c.new.result.items c.args.tiles (λ within. absurd (past_last h c.eras.result.now (c.eras.ensures.value ∙ chain.eras) c.args.tiles c.first-end.result c.first-end.ensures.value over within)))

pub returns-then-end-from-clause-linked : goal.returns-then-end-from-clause-linked
returns-then-end-from-clause-linked c = λ within.
    (let over : max_granules < c.first-end.result = omega (arith, c.if-end-from.true) in
    let at = c.first-end.ensures.value ∙ ap (λ (p : Policy). first_granule (layout_by p) c.args.tiles) c.eras.ensures.value in
    absurd (omega (arith, at, over, within)))

pub end_tiles-requires-clause-end : goal.end_tiles-requires-clause-end
end_tiles-requires-clause-end c = first_of (history_of c.args.chains.now) c.eras.result.now c.eras.ensures.value c.args.tiles c.first-end.result c.first-end.ensures.value

pub returns-clause-value : goal.returns-clause-value
returns-clause-value c =
    let closed = c.in_ok-end_tiles.ensures.value in
    IfOk-weaker c.links.result _ _ (λ v is h chain. linked c.args.chains.now h chain v.items c.args.tiles
    (λ within. is ∙ closed_links c.args.chains.now h chain c.end_tiles.new.chains closed.0 0 c.args.tiles closed.1)) c.links.ensures.value

pub returns-clause-linked : goal.returns-clause-linked
returns-clause-linked c =
    IfOk-weaker c.links.result _ _ (λ v is within. (let long = ap length is in long ∙ length-map-range_with_len (cum (history_of c.end_tiles.new.chains)) 0 c.args.tiles)) c.links.ensures.value

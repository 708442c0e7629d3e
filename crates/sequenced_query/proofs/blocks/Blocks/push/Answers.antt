use Rattle.std.proofs.Common.{ℕ, ◌+◌, ◌<◌, ◌≤◌, List, [], ◌∷◌, ◌++◌, length, get_or, map, sym, ap, subst, ◌∙◌}
use Rattle.std.proofs.lemmas.List.{map-append}
use Rattle.sequenced_query.specs.declared.blocks.Entry.{Entry}
use Rattle.sequenced_query.specs.declared.spots.Spot.{Spot}
use Rattle.sequenced_query.specs.Blocks.{AreBlocks, IsInside, block_start}
use Rattle.sequenced_query.proofs.Blocked.{one_more}
use Rattle.sequenced_query.proofs.blocks.Blocks.push.Goals as goal

pub block_with-block-requires : goal.block_with-block-requires
block_with-block-requires c = subst AreBlocks (sym c.deref.ensures.value) c.self.invariant

pub invariant_of-self-2 : goal.invariant_of-self-2
invariant_of-self-2 c =
    let block = c.block_with-block.result in
    let others = subst (λ (es : List Entry). (j : ℕ) (d : Entry) → block_start (length es + 1) ≤ j → j < length es → IsInside (get_or es j d).spot.part block) c.deref.ensures.value c.block_with-block.ensures.others in
    subst AreBlocks (sym c.in_ok-push.ensures.items) (one_more c.self.inside.entries.items c.self.invariant (record { spot = c.args.spot; block = block }) c.block_with-block.ensures.own others)

pub returns-clause-ok : goal.returns-clause-ok
returns-clause-ok c =
    ap (map (λ e. e.spot)) c.in_ok-push.ensures.items ∙ map-append (λ e. e.spot) c.self.inside.entries.items _ ∙ ap (λ (l : List Spot). l ++ c.args.spot ∷ []) c.self.view_is

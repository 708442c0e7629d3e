use Rattle.std.proofs.Common.{◌≡◌, ℕ, ◌+◌, ◌-◌, List, [], ◌∷◌, ◌++◌, map, Ok, Err, refl, sym, ap, subst, ◌∙◌, arith}
use Rattle.std.specs.List.{Contains, range_with_len}
use Rattle.std.specs.declared.ops.Range.{Range}
use Rattle.std.proofs.lemmas.Result.{err_from_is_err_and}
use Rattle.outside_words.proofs.Told.{told_same, told_map}
use Rattle.notary_link.proofs.Frame.{goes_on_same}
use Rattle.notary_link.proofs.Reading.{reads_then}
use Rattle.notary_link.proofs.Unchanged.{unchanged_same}
use Rattle.notary_link.specs.Batches.{Batch}
use Rattle.notary_link.specs.Notary.{Lists}
use Rattle.notary_link.specs.declared.fail.AskFail.TheVariants.{NotSealedSo}
use Rattle.digest_model.specs.Layout.{Layout, layout, first_granule}
use Rattle.policy_eras.proofs.Histories.{layout_is}
use Rattle.audit_model.specs.Asked.{IsTold}
use Rattle.audit_model.specs.Notary.{nodes_of}
use Rattle.audit_model.specs.Ranges.{range_has}
use Rattle.a3d_forensics.specs.declared.chains.Chains.TheVariants.{Tree as trees}
use Rattle.a3d_forensics.specs.declared.found.A3dFound.{A3dFound}
use Rattle.a3d_forensics.specs.declared.tree.Tree.{Tree}
use Rattle.a3d_forensics.specs.Chains.{has_of}
use Rattle.a3d_forensics.specs.Descent.{tree_told}
use Rattle.a3d_forensics.specs.Rooted.{GoesThrough, IsFoundAbove}
use Rattle.a3d_forensics.specs.Trees.{tiles_before, tree_of, eras_in, trees_of, IsTreeOf}
use Rattle.a3d_forensics.proofs.Above.{IsFoundBefore, before_all, next_found, few_all}
use Rattle.a3d_forensics.proofs.Begins.{known_small}
use Rattle.a3d_forensics.proofs.EraTrees.{of_number, first_is, tree_planned, trees_are}
use Rattle.a3d_forensics.proofs.Fails.{one_of_trees}
use Rattle.a3d_forensics.proofs.Ranges.{among, left_behind, moved, none_left}
use Rattle.a3d_forensics.proofs.Rooted.{GoesOn, begins_all, goes_on_to, stops_all, ends_all}
use Rattle.a3d_forensics.proofs.descent.altered.Goals as goal

pub range_has-requires : goal.range_has-requires
range_has-requires g c = record { small = known_small c.args.plan.now.history c.args.era c.requires.known }

pub eras_of-number-items-requires : goal.eras_of-number-items-requires
eras_of-number-items-requires g c = record { small = known_small c.args.plan.now.history c.args.era c.requires.known }

-- ---- no tree

pub returns-then-not-range_has-clause-value : goal.returns-then-not-range_has-clause-value
returns-then-not-range_has-clause-value g c =
    let h = c.args.plan.now.history in
    let none = sym (c.range_has.ensures h c.eras.ensures.value ∙ ap (range_has (has_of trees) c.args.era h) c.tiles.ensures.value) ∙ c.if-not-range_has.true in
    told_same _ _ (λ (before after : Lists). IsTold (tree_told (before.batches c.args.id) c.args.plan.now.history c.args.era c.args.plan.now.tiles) (Err NotSealedSo)) refl (λ lists. rw none refl)

pub returns-then-not-range_has-clause-frame : goal.returns-then-not-range_has-clause-frame
returns-then-not-range_has-clause-frame g c = goes_on_same _

-- ---- the loop

pub loop-number-init : goal.loop-number-init
loop-number-init g c =
    let h = c.args.plan.now.history in
    let n = c.args.plan.now.tiles in
    let it = c.into_iter-number-iterator.result in
    let found : A3dFound = record { granules = c.new.result; checks = 0 } in
    let limit = first_granule (layout h) (tiles_before (layout h) n it.start) in
    let numbers : range_with_len c.into_iter-number-iterator.result.start (c.into_iter-number-iterator.result.end - c.into_iter-number-iterator.result.start) ≡ eras_in c.args.era (layout c.args.plan.now.history) c.args.plan.now.tiles =
    ap (λ (r : Range ℕ). range_with_len r.start (r.end - r.start)) c.into_iter-number-iterator.ensures.into_iter_gives
    ∙ c.eras_of-number-items.ensures.value
    ∙ ap (λ (l : Layout). eras_in c.args.era l c.tiles-2.result) (layout_is h c.eras-2.ensures.value)
    ∙ ap (eras_in c.args.era (layout h)) c.tiles-2.ensures.value in
    let trees_left : trees_of c.args.era (layout c.args.plan.now.history) c.args.plan.now.tiles
    ≡ map (tree_of (layout c.args.plan.now.history) c.args.plan.now.tiles) (range_with_len c.into_iter-number-iterator.result.start (c.into_iter-number-iterator.result.end - c.into_iter-number-iterator.result.start)) =
    trees_are c.args.era (layout h) n ∙ ap (map (tree_of (layout h) n)) (sym numbers) in
    record {
      has = sym (c.range_has.ensures h c.eras.ensures.value ∙ ap (range_has (has_of trees) c.args.era h) c.tiles.ensures.value) ∙ c.if-not-range_has.false;
      small = (let end = ap (λ (r : Range ℕ). r.end) c.into_iter-number-iterator.ensures.into_iter_gives in let few = c.eras_of-number-items.ensures.small in omega (arith, end, few));
      parts = ([], sym numbers);
      found = subst (λ (left : List Tree). IsFoundBefore c.args.era (layout h) n limit left found) trees_left (before_all c.args.era (layout h) n limit found c.new.ensures.value refl);
      told = told_same _ _ (λ (before after : Lists). GoesOn (before.batches c.args.id) h c.args.era n (map (tree_of (layout h) n) (range_with_len it.start (it.end - it.start))) found) refl
          (λ lists. subst (λ (left : List Tree). GoesOn (lists.batches c.args.id) h c.args.era n left found) trees_left (begins_all (lists.batches c.args.id) h c.args.era n found c.new.ensures.value refl));
      same = unchanged_same _;
      few = omega arith;
      frame = goes_on_same _;
      counted = λ shows. refl;
    }

pub descend_tree-requires-clause-tree : goal.descend_tree-requires-clause-tree
descend_tree-requires-clause-tree g c =
    let h = c.args.plan.now.history in
    let n = c.args.plan.now.tiles in
    let on = c.loop-number.invariant in
    let it = c.loop-number.number-iterator in
    let steps = c.in-Some.ensures.steps in
    let one = among _ on.parts.0 it.start it.end c.in-Some.number on.parts.1 steps.1.0 steps.1.1 in
    subst (IsTreeOf h n) (sym c.tree_of.ensures)
    (tree_planned h c.args.era n c.in-Some.number (tree_of (layout h) n c.in-Some.number) on.has c.tiles.ensures.within (of_number c.args.era (layout h) n c.in-Some.number one).1)

pub descend_tree-requires-clause-room : goal.descend_tree-requires-clause-room
descend_tree-requires-clause-room g c =
    let h = c.args.plan.now.history in
    let n = c.args.plan.now.tiles in
    let steps = c.in-Some.ensures.steps in
    let few = c.loop-number.invariant.found.bounded in
    let first : c.tree_of.result.first ≡ first_granule (layout c.args.plan.now.history) (tiles_before (layout c.args.plan.now.history) c.args.plan.now.tiles c.loop-number.number-iterator.start) =
    ap (λ (t : Tree). t.first) c.tree_of.ensures ∙ first_is (layout h) n c.in-Some.number ∙ ap (λ (e : ℕ). first_granule (layout h) (tiles_before (layout h) n e)) steps.1.1 in
    omega (arith, few, first)

pub loop-number-preserved : goal.loop-number-preserved
loop-number-preserved g c =
    let S = g.N.Notary.state in
    let h = c.args.plan.now.history in
    let n = c.args.plan.now.tiles in
    let on = c.loop-number.invariant in
    let it = c.loop-number.number-iterator in
    let next = c.next.new.self in
    let steps = c.in-Some.ensures.steps in
    let number = c.in-Some.number in
    let old : A3dFound = c.loop-number.found in
    let new : A3dFound = c.descend_tree.new.found in
    let rest = range_with_len c.next.new.self.start (c.next.new.self.end - c.next.new.self.start) in
    let tree = c.in_ok-descend_tree.ensures in
    let one = among _ on.parts.0 it.start it.end number on.parts.1 steps.1.0 steps.1.1 in
    let behind = left_behind _ on.parts.0 it.start it.end number on.parts.1 steps.1.0 steps.1.1 next.start next.end steps.0 steps.1.2 in
    let was : IsFoundBefore c.args.era (layout h) n (first_granule (layout h) (tiles_before (layout h) n number)) (map (tree_of (layout h) n) (number ∷ rest)) old =
    subst (λ (ns : List ℕ). IsFoundBefore c.args.era (layout h) n (first_granule (layout h) (tiles_before (layout h) n number)) (map (tree_of (layout h) n) ns) old) behind
    (subst (λ (e : ℕ). IsFoundBefore c.args.era (layout h) n (first_granule (layout h) (tiles_before (layout h) n e)) (map (tree_of (layout h) n) (range_with_len it.start (it.end - it.start))) old) (sym steps.1.1) on.found) in
    let more : IsFoundAbove (tree_of (layout h) n number) 0 old new = subst (λ (t : Tree). IsFoundAbove t 0 old new) c.tree_of.ensures tree.above in
    let found = next_found h c.args.era n number rest old new c.tiles.ensures.within one was more in
    let up : number + 1 ≡ c.next.new.self.start = (let first = steps.1.1 in let start = steps.1.2 in omega (arith, first, start)) in
    let both = reads_then c.args.id
    (λ (batches : List Batch). GoesOn batches h c.args.era n (map (tree_of (layout h) n) (range_with_len it.start (it.end - it.start))) old)
    (λ (batches : List Batch). GoesThrough (nodes_of batches h) (c.tree_of.result ∷ []) (Ok tt) old new)
    (λ (batches : List Batch). GoesOn batches h c.args.era n (map (tree_of (layout h) n) rest) new)
    (S c.args.notary.now) (S c.loop-number.notary) (S c.descend_tree.new.notary)
    (record { told = on.told; same = on.same; frame = on.frame })
    (record { told = tree.told; same = tree.same; frame = tree.frame })
    (λ batches before through. goes_on_to batches h c.args.era n (tree_of (layout h) n number) (map (tree_of (layout h) n) rest) old new
    (subst (λ (ns : List ℕ). GoesOn batches h c.args.era n (map (tree_of (layout h) n) ns) old) behind before)
    (subst (λ (t : Tree). GoesThrough (nodes_of batches h) (t ∷ []) (Ok tt) old new) c.tree_of.ensures through)) in
    record {
      has = on.has;
      small = (let end = steps.0 in let few = on.small in omega (arith, end, few));
      parts = (on.parts.0 ++ number ∷ [], moved _ on.parts.0 it.start it.end number on.parts.1 steps.1.0 steps.1.1 next.start next.end steps.0 steps.1.2);
      found = subst (λ (e : ℕ). IsFoundBefore c.args.era (layout h) n (first_granule (layout h) (tiles_before (layout h) n e)) (map (tree_of (layout h) n) rest) new) up found;
      told = both.told;
      same = both.same;
      few = omega (arith, on.few, tree.asked);
      frame = both.frame;
      counted = λ shows. tree.counted (on.frame.shows ∙ shows) ∙ on.counted shows;
    }

pub returns-in_err-descend_tree-clause-value : goal.returns-in_err-descend_tree-clause-value
returns-in_err-descend_tree-clause-value g c =
    let S = g.N.Notary.state in
    let h = c.args.plan.now.history in
    let n = c.args.plan.now.tiles in
    let on = c.loop-number.invariant in
    let it = c.loop-number.number-iterator in
    let next = c.next.new.self in
    let steps = c.in-Some.ensures.steps in
    let number = c.in-Some.number in
    let old : A3dFound = c.loop-number.found in
    let new : A3dFound = c.descend_tree.new.found in
    let rest = range_with_len c.next.new.self.start (c.next.new.self.end - c.next.new.self.start) in
    let fail = c.in_err-descend_tree.field-0.0 in
    let tree = c.in_err-descend_tree.ensures in
    let behind = left_behind _ on.parts.0 it.start it.end number on.parts.1 steps.1.0 steps.1.1 next.start next.end steps.0 steps.1.2 in
    let p = err_from_is_err_and c.from_residual.result c.from_residual.ensures.1 in
    rw (p.1, p.2) (reads_then c.args.id
    (λ (batches : List Batch). GoesOn batches h c.args.era n (map (tree_of (layout h) n) (range_with_len it.start (it.end - it.start))) old)
    (λ (batches : List Batch). GoesThrough (nodes_of batches h) (c.tree_of.result ∷ []) (Err fail) old new)
    (λ (batches : List Batch). IsTold (tree_told batches h c.args.era n) (Err fail))
    (S c.args.notary.now) (S c.loop-number.notary) (S c.descend_tree.new.notary)
    (record { told = on.told; same = on.same; frame = on.frame })
    (record { told = tree.told; same = tree.same; frame = tree.frame })
    (λ batches before through. stops_all batches h c.args.era n (tree_of (layout h) n number) (map (tree_of (layout h) n) rest) fail old new on.has
    (subst (λ (ns : List ℕ). GoesOn batches h c.args.era n (map (tree_of (layout h) n) ns) old) behind before)
    (subst (λ (t : Tree). GoesThrough (nodes_of batches h) (t ∷ []) (Err fail) old new) c.tree_of.ensures through))).told

pub returns-in_err-descend_tree-clause-only : goal.returns-in_err-descend_tree-clause-only
returns-in_err-descend_tree-clause-only g c =
    let h = c.args.plan.now.history in
    let n = c.args.plan.now.tiles in
    let on = c.loop-number.invariant in
    let it = c.loop-number.number-iterator in
    let steps = c.in-Some.ensures.steps in
    let one = among _ on.parts.0 it.start it.end c.in-Some.number on.parts.1 steps.1.0 steps.1.1 in
    let is_in : Contains (trees_of c.args.era (layout h) n) c.tree_of.result =
    subst (Contains (trees_of c.args.era (layout h) n)) (sym c.tree_of.ensures) (of_number c.args.era (layout h) n c.in-Some.number one).0 in
    let p = err_from_is_err_and c.from_residual.result c.from_residual.ensures.1 in
    rw (p.1, p.2) (one_of_trees (trees_of c.args.era (layout h) n) c.tree_of.result c.in_err-descend_tree.field-0.0 is_in c.in_err-descend_tree.ensures.only)

pub returns-clause-value : goal.returns-clause-value
returns-clause-value g c =
    let h = c.args.plan.now.history in
    let n = c.args.plan.now.tiles in
    let on = c.loop-number.invariant in
    let it = c.loop-number.number-iterator in
    let none = none_left it.start it.end c.in-None.ensures.steps.1.0 in
    told_map _ _ _ _ on.told (λ (before after : Lists) goes.
    ends_all (before.batches c.args.id) h c.args.era n c.loop-number.found on.has
    (subst (λ (ns : List ℕ). GoesOn (before.batches c.args.id) h c.args.era n (map (tree_of (layout h) n) ns) c.loop-number.found) none goes))

pub returns-clause-few : goal.returns-clause-few
returns-clause-few g c =
    let h = c.args.plan.now.history in
    let n = c.args.plan.now.tiles in
    let on = c.loop-number.invariant in
    let it = c.loop-number.number-iterator in
    let none = none_left it.start it.end c.in-None.ensures.steps.1.0 in
    few_all c.args.era (layout h) n (first_granule (layout h) (tiles_before (layout h) n it.start)) c.loop-number.found
    (subst (λ (ns : List ℕ). IsFoundBefore c.args.era (layout h) n (first_granule (layout h) (tiles_before (layout h) n it.start)) (map (tree_of (layout h) n) ns) c.loop-number.found) none on.found)

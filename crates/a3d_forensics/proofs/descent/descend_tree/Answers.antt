use Rattle.std.proofs.Common.{◌≡◌, ℕ, suc, ◌+◌, ◌-◌, List, [], ◌∷◌, Ok, Err, refl, subst, ◌∙◌, arith}
use Rattle.std.proofs.lemmas.Result.{err_from_is_err_and}
use Rattle.outside_words.proofs.Told.{told_same, told_map}
use Rattle.notary_link.proofs.Frame.{goes_on_same}
use Rattle.notary_link.proofs.Reading.{reads_then}
use Rattle.notary_link.proofs.Unchanged.{unchanged_same}
use Rattle.notary_link.specs.Batches.{Batch}
use Rattle.notary_link.specs.Notary.{Lists}
use Rattle.audit_model.specs.Notary.{nodes_of}
use Rattle.a3d_forensics.specs.Rooted.{root_at_level, GoesOver, GoesThrough, IsFoundAbove}
use Rattle.a3d_forensics.proofs.Above.{above_all, room_at}
use Rattle.a3d_forensics.proofs.Rooted.{GoesDown, begins, goes_down, stops_tree, ends}
use Rattle.a3d_forensics.proofs.descent.descend_tree.Goals as goal

pub loop-level-init : goal.loop-level-init
loop-level-init g c = record {
  within = omega arith;
  above = above_all c.args.tree c.args.found.now;
  told = told_same _ _ (λ (before after : Lists). GoesDown (nodes_of (before.batches c.args.id) c.args.plan.now.history) c.args.tree c.args.found.now 32 c.args.found.now) refl
      (λ lists. begins (nodes_of (lists.batches c.args.id) c.args.plan.now.history) c.args.tree c.args.found.now);
  same = unchanged_same _;
  few = omega arith;
  frame = goes_on_same _;
  counted = λ shows. refl;
}

pub descend_root-requires-clause-room : goal.descend_root-requires-clause-room
descend_root-requires-clause-room g c =
    let bounded = c.loop-level.invariant.above.bounded in
    let high = room_at c.args.tree.leaves c.loop-level.level in
    let small = c.requires.tree.within in
    let room = c.requires.room in
    omega (arith, bounded, high, small, room)

pub loop-level-preserved : goal.loop-level-preserved
loop-level-preserved g c =
    let S = g.N.Notary.state in
    let at = λ (batches : List Batch). nodes_of batches c.args.plan.now.history in
    let level = c.loop-level.level - 1 in
    let next : c.loop-level.level ≡ suc (c.loop-level.level - 1) = omega (arith, c.loop-level-test.true) in
    let on = c.loop-level.invariant in
    let root = c.in_ok-descend_root.ensures in
    let both = reads_then c.args.id
    (λ (batches : List Batch). GoesDown (at batches) c.args.tree c.args.found.now c.loop-level.level c.loop-level.found)
    (λ (batches : List Batch). GoesOver c.args.tree (at batches c.args.tree.era) (root_at_level c.args.tree.leaves level) (Ok tt) c.loop-level.found c.descend_root.new.found)
    (λ (batches : List Batch). GoesDown (at batches) c.args.tree c.args.found.now level c.descend_root.new.found)
    (S c.args.notary.now) (S c.loop-level.notary) (S c.descend_root.new.notary)
    (record { told = on.told; same = on.same; frame = on.frame })
    (record { told = root.told; same = root.same; frame = root.frame })
    (λ batches one two. goes_down (at batches) c.args.tree c.args.found.now level c.loop-level.level c.loop-level.found c.descend_root.new.found next one two) in
    let up : c.loop-level.level ≡ c.loop-level.level - 1 + 1 = omega (arith, next) in
    record {
      within = omega (arith, on.within);
      above = root.above c.args.found.now (subst (λ (l : ℕ). IsFoundAbove c.args.tree l c.args.found.now c.loop-level.found) up on.above);
      told = both.told;
      same = both.same;
      few = omega (arith, on.few, root.asked);
      frame = both.frame;
      counted = λ shows. root.counted (on.frame.shows ∙ shows) ∙ on.counted shows;
    }

pub returns-in_err-descend_root-clause-told : goal.returns-in_err-descend_root-clause-told
returns-in_err-descend_root-clause-told g c =
    let S = g.N.Notary.state in
    let at = λ (batches : List Batch). nodes_of batches c.args.plan.now.history in
    let level = c.loop-level.level - 1 in
    let next : c.loop-level.level ≡ suc (c.loop-level.level - 1) = omega (arith, c.loop-level-test.true) in
    let on = c.loop-level.invariant in
    let fail = c.in_err-descend_root.field-0.0 in
    let root = c.in_err-descend_root.ensures in
    let p = err_from_is_err_and c.from_residual.result c.from_residual.ensures.1 in
    rw (p.1, p.2) (reads_then c.args.id
    (λ (batches : List Batch). GoesDown (at batches) c.args.tree c.args.found.now c.loop-level.level c.loop-level.found)
    (λ (batches : List Batch). GoesOver c.args.tree (at batches c.args.tree.era) (root_at_level c.args.tree.leaves level) (Err fail) c.loop-level.found c.descend_root.new.found)
    (λ (batches : List Batch). GoesThrough (at batches) (c.args.tree ∷ []) (Err fail) c.args.found.now c.descend_root.new.found)
    (S c.args.notary.now) (S c.loop-level.notary) (S c.descend_root.new.notary)
    (record { told = on.told; same = on.same; frame = on.frame })
    (record { told = root.told; same = root.same; frame = root.frame })
    (λ batches one two. stops_tree (at batches) c.args.tree c.args.found.now level c.loop-level.level fail c.loop-level.found c.descend_root.new.found next one two)).told

pub returns-clause-told : goal.returns-clause-told
returns-clause-told g c =
    let on = c.loop-level.invariant in
    let low : c.loop-level.level ≡ 0 = omega (arith, c.loop-level-test.false) in
    told_map _ _ _ _ on.told (λ (before after : Lists) down.
    ends (nodes_of (before.batches c.args.id) c.args.plan.now.history) c.args.tree c.args.found.now c.loop-level.level c.loop-level.found low down)

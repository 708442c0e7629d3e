use Rattle.std.proofs.Common.{◌≡◌, suc, ◌+◌, ◌-◌, ◌*◌, List, Ok, Err, refl, arith}
use Rattle.std.proofs.lemmas.Result.{err_from_is_err_and, on_ok_weaker}
use Rattle.outside_words.proofs.Told.{told_same, told_map}
use Rattle.notary_link.proofs.Frame.{goes_on_same, goes_on_then}
use Rattle.notary_link.specs.Batches.{Batch}
use Rattle.notary_link.specs.Notary.{Lists}
use Rattle.digest_model.proofs.Steps.{children_fit}
use Rattle.a3d_forensics.specs.declared.found.A3dFound.{A3dFound}
use Rattle.audit_model.specs.Notary.{nodes_of}
use Rattle.a3d_forensics.specs.Asking.{ComparesChildren}
use Rattle.a3d_forensics.specs.Going.{GoesFrom}
use Rattle.notary_link.proofs.Reading.{Reads, reads_then}
use Rattle.notary_link.proofs.Unchanged.{unchanged_then}
use Rattle.a3d_forensics.proofs.Going.{nothing_from, leaf_from, children_stop, left_stops, right_goes}
use Rattle.a3d_forensics.proofs.Finding.{room_left, room_right, finds_nothing, finds_leaf, finds_both}
use Rattle.a3d_forensics.proofs.below.+descend.Goals as goal

-- ---- a node that is the same

pub returns-then-not-differs-clause-told : goal.returns-then-not-differs-clause-told
returns-then-not-differs-clause-told g t c =
    told_same _ _ (λ (before after : Lists). GoesFrom c.args.tree (nodes_of (before.batches c.args.id) c.args.plan.now.history c.args.tree.era) c.args.level c.args.index c.args.differs (Ok tt) c.args.found.now c.args.found.now) refl
    (λ lists. nothing_from c.args.tree (nodes_of (lists.batches c.args.id) c.args.plan.now.history c.args.tree.era) c.args.index c.args.found.now c.args.level c.args.differs c.if-not-differs.true)

pub returns-then-not-differs-clause-more : goal.returns-then-not-differs-clause-more
returns-then-not-differs-clause-more g t c = finds_nothing c.args.tree.first c.args.level c.args.index c.args.differs c.args.found.now c.if-not-differs.true

pub returns-then-not-differs-clause-frame : goal.returns-then-not-differs-clause-frame
returns-then-not-differs-clause-frame g t c = goes_on_same _

-- ---- a leaf

pub returns-then-level-eq0-clause-told : goal.returns-then-level-eq0-clause-told
returns-then-level-eq0-clause-told g t c =
    let new : A3dFound = record { granules = c.push.new.self; checks = c.args.found.now.checks } in
    told_same _ _ (λ (before after : Lists). GoesFrom c.args.tree (nodes_of (before.batches c.args.id) c.args.plan.now.history c.args.tree.era) c.args.level c.args.index c.args.differs (Ok tt) c.args.found.now new) refl
    (λ lists. leaf_from c.args.tree (nodes_of (lists.batches c.args.id) c.args.plan.now.history c.args.tree.era) c.args.index c.args.found.now c.args.level c.args.differs new c.if-level-eq0.true c.if-not-differs.false c.in_ok-push.ensures.ok refl)

pub returns-then-level-eq0-clause-frame : goal.returns-then-level-eq0-clause-frame
returns-then-level-eq0-clause-frame g t c = goes_on_same _

pub returns-in_err-push-clause-frame : goal.returns-in_err-push-clause-frame
returns-in_err-push-clause-frame g t c = goes_on_same _

-- ---- two children

pub returns-in_err-left-clause-told : goal.returns-in_err-left-clause-told
returns-in_err-left-clause-told g t c =
    let up : suc (c.args.level - 1) ≡ c.args.level = omega (arith, c.if-level-eq0.false) in
    let p = err_from_is_err_and c.from_residual-in_err-left.result c.from_residual-in_err-left.ensures.1 in
    rw (p.1, p.2) (told_map _ _ _ _ c.in_err-left.ensures.value (λ (before after : Lists) told.
    children_stop c.args.tree (nodes_of (before.batches c.args.id) c.args.plan.now.history c.args.tree.era) c.args.level (c.args.level - 1) c.args.index c.args.differs c.args.found.now up c.if-not-differs.false c.in_err-left.field-0.0 c.args.found.now told))

pub descend-requires : goal.descend-requires
descend-requires g t c κs within =
    let fit = children_fit c.args.level c.args.index c.args.tree.leaves c.if-level-eq0.false c.requires.over in
    let down = c.decreases in
    (omega (arith, down, c.if-level-eq0.false), (within, (c.requires.tree, (fit.0, room_left c.args.level c.args.found.now.checks 8388608 c.if-level-eq0.false c.requires.room))))

pub returns-in_err-descend-clause-told : goal.returns-in_err-descend-clause-told
returns-in_err-descend-clause-told g t c =
    let S = g.N.Notary.state in
    let at = λ (batches : List Batch). nodes_of batches c.args.plan.now.history c.args.tree.era in
    let below = c.args.level - 1 in
    let index = c.args.index in
    let up : suc (c.args.level - 1) ≡ c.args.level = omega (arith, c.if-level-eq0.false) in
    let old : A3dFound = c.args.found.now in
    let mid : A3dFound = record { granules = c.args.found.now.granules; checks = c.args.found.now.checks + 2 } in
    let fail = c.in_err-descend.field-0.0 in
    let asked = c.in_ok-left.ensures in
    let left = c.in_err-descend.ensures in
    let p = err_from_is_err_and c.from_residual-in_err-descend.result c.from_residual-in_err-descend.ensures.1 in
    rw (p.1, p.2) (reads_then c.args.id
    (λ (batches : List Batch). ComparesChildren c.args.tree.era (at batches) below index (Ok (c.in_ok-left.left, c.in_ok-left.right)))
    (λ (batches : List Batch). GoesFrom c.args.tree (at batches) below (2 * index) c.in_ok-left.left (Err fail) mid c.descend.new.found)
    (λ (batches : List Batch). GoesFrom c.args.tree (at batches) c.args.level index c.args.differs (Err fail) old c.descend.new.found)
    (S c.args.notary.now) (S c.children_differ.new.notary) (S c.descend.new.notary)
    (record { told = asked.value; same = asked.same; frame = asked.frame })
    (record { told = left.told; same = left.same; frame = left.frame })
    (λ batches one two. left_stops c.args.tree (at batches) c.args.level below index c.args.differs old up c.if-not-differs.false c.in_ok-left.left c.in_ok-left.right mid one fail c.descend.new.found c.descend.new.found two)).told

pub descend-requires-2 : goal.descend-requires-2
descend-requires-2 g t c κs within =
    let fit = children_fit c.args.level c.args.index c.args.tree.leaves c.if-level-eq0.false c.requires.over in
    let down = c.decreases in
    (omega (arith, down, c.if-level-eq0.false), (within, (c.requires.tree, (fit.1, room_right c.args.level c.args.found.now.checks 8388608 c.if-level-eq0.false c.requires.room c.descend.new.found.checks c.in_ok-descend.ensures.more.within))))

pub returns-clause-told : goal.returns-clause-told
returns-clause-told g t c =
    let S = g.N.Notary.state in
    let at = λ (batches : List Batch). nodes_of batches c.args.plan.now.history c.args.tree.era in
    let below = c.args.level - 1 in
    let index = c.args.index in
    let up : suc (c.args.level - 1) ≡ c.args.level = omega (arith, c.if-level-eq0.false) in
    let old : A3dFound = c.args.found.now in
    let mid : A3dFound = record { granules = c.args.found.now.granules; checks = c.args.found.now.checks + 2 } in
    let then : A3dFound = c.descend.new.found in
    let new : A3dFound = c.descend-2.new.found in
    let l = c.in_ok-left.left in
    let r = c.in_ok-left.right in
    let asked = c.in_ok-left.ensures in
    let left = c.in_ok-descend.ensures in
    let right = c.descend-2.ensures in
    let Asked = λ (batches : List Batch). ComparesChildren c.args.tree.era (at batches) below index (Ok (l, r)) in
    let Left = λ (batches : List Batch). GoesFrom c.args.tree (at batches) below (2 * index) l (Ok tt) mid then in
    let first : Reads c.args.id (λ (batches : List Batch). Asked batches × Left batches) (S c.args.notary.now) (S c.descend.new.notary) =
    reads_then c.args.id Asked Left (λ (batches : List Batch). Asked batches × Left batches) (S c.args.notary.now) (S c.children_differ.new.notary) (S c.descend.new.notary)
    (record { told = asked.value; same = asked.same; frame = asked.frame })
    (record { told = left.told; same = left.same; frame = left.frame })
    (λ batches one two. (one, two)) in
    (reads_then c.args.id (λ (batches : List Batch). Asked batches × Left batches)
    (λ (batches : List Batch). GoesFrom c.args.tree (at batches) below (2 * index + 1) r c.descend-2.result then new)
    (λ (batches : List Batch). GoesFrom c.args.tree (at batches) c.args.level index c.args.differs c.descend-2.result old new)
    (S c.args.notary.now) (S c.descend.new.notary) (S c.descend-2.new.notary)
    first
    (record { told = right.told; same = right.same; frame = right.frame })
    (λ batches both next. right_goes c.args.tree (at batches) c.args.level below index c.args.differs old up c.if-not-differs.false l r mid both.0 c.descend-2.result then new refl refl both.1 next)).told

pub returns-clause-more : goal.returns-clause-more
returns-clause-more g t c =
    let up : suc (c.args.level - 1) ≡ c.args.level = omega (arith, c.if-level-eq0.false) in
    let mid : A3dFound = record { granules = c.args.found.now.granules; checks = c.args.found.now.checks + 2 } in
    on_ok_weaker c.descend-2.result
    (λ right. finds_both c.args.tree.first c.args.level (c.args.level - 1) c.args.index c.args.differs c.in_ok-left.left c.in_ok-left.right c.args.found.now mid c.descend.new.found c.descend-2.new.found up
    c.in_ok-left.ensures.some refl refl c.in_ok-descend.ensures.more right)
    c.descend-2.ensures.more

-- ---- what stays

pub returns-in_err-descend-clause-same : goal.returns-in_err-descend-clause-same
returns-in_err-descend-clause-same g t c = unchanged_then _ _ _ c.in_ok-left.ensures.frame c.in_err-descend.ensures.frame c.in_ok-left.ensures.same c.in_err-descend.ensures.same

pub returns-in_err-descend-clause-frame : goal.returns-in_err-descend-clause-frame
returns-in_err-descend-clause-frame g t c = goes_on_then _ _ _ c.in_ok-left.ensures.frame c.in_err-descend.ensures.frame

pub returns-clause-same : goal.returns-clause-same
returns-clause-same g t c =
    unchanged_then _ _ _ (goes_on_then _ _ _ c.in_ok-left.ensures.frame c.in_ok-descend.ensures.frame) c.descend-2.ensures.frame
    (unchanged_then _ _ _ c.in_ok-left.ensures.frame c.in_ok-descend.ensures.frame c.in_ok-left.ensures.same c.in_ok-descend.ensures.same) c.descend-2.ensures.same

pub returns-clause-frame : goal.returns-clause-frame
returns-clause-frame g t c = goes_on_then _ _ _ (goes_on_then _ _ _ c.in_ok-left.ensures.frame c.in_ok-descend.ensures.frame) c.descend-2.ensures.frame

pub returns-then-level-eq0-clause-more : goal.returns-then-level-eq0-clause-more
returns-then-level-eq0-clause-more g t c =
    let new : A3dFound = record { granules = c.push.new.self; checks = c.args.found.now.checks } in
    finds_leaf c.args.tree.first c.args.level c.args.index c.args.differs c.args.found.now new c.if-level-eq0.true c.in_ok-push.ensures.ok refl

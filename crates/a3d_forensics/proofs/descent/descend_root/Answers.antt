use Rattle.std.proofs.Common.{◌+◌, ◌-◌, ◌/◌, ◌^◌, List, Ok, refl}
use Rattle.std.proofs.lemmas.Result.{err_from_is_err_and, on_ok_weaker}
use Rattle.outside_words.proofs.Told.{told_same, told_map}
use Rattle.notary_link.proofs.Frame.{goes_on_same, goes_on_then}
use Rattle.notary_link.specs.Batches.{Batch}
use Rattle.notary_link.specs.Notary.{Lists}
use Rattle.a3d_forensics.specs.declared.found.A3dFound.{A3dFound}
use Rattle.a3d_forensics.specs.Asking.{Compares}
use Rattle.audit_model.specs.Notary.{nodes_of}
use Rattle.a3d_forensics.specs.Going.{GoesFrom}
use Rattle.a3d_forensics.specs.Rooted.{root_at_level, GoesOver}
use Rattle.notary_link.proofs.Reading.{reads_then}
use Rattle.notary_link.proofs.Unchanged.{unchanged_then}
use Rattle.a3d_forensics.proofs.Rooted.{over_none, root_stops, root_goes}
use Rattle.a3d_forensics.proofs.Above.{no_root, one_root, root_place, above_none, above_root}
use Rattle.a3d_forensics.proofs.descent.descend_root.Goals as goal

-- ---- no root

pub returns-then-nodes-eq0-clause-told : goal.returns-then-nodes-eq0-clause-told
returns-then-nodes-eq0-clause-told g c =
    let none = no_root c.args.tree.leaves c.args.level c.if-nodes-eq0.true in
    told_same _ _ (λ (before after : Lists). GoesOver c.args.tree (nodes_of (before.batches c.args.id) c.args.plan.now.history c.args.tree.era) (root_at_level c.args.tree.leaves c.args.level) (Ok tt) c.args.found.now c.args.found.now) refl
    (λ lists. over_none c.args.tree (nodes_of (lists.batches c.args.id) c.args.plan.now.history c.args.tree.era) c.args.level c.args.found.now none)

pub returns-then-nodes-eq0-clause-above : goal.returns-then-nodes-eq0-clause-above
returns-then-nodes-eq0-clause-above g c = λ start was. above_none c.args.tree c.args.level start c.args.found.now was c.if-nodes-eq0.true

pub returns-then-nodes-eq0-clause-frame : goal.returns-then-nodes-eq0-clause-frame
returns-then-nodes-eq0-clause-frame g c = goes_on_same _

-- ---- a root

pub returns-in_err-differs-clause-told : goal.returns-in_err-differs-clause-told
returns-in_err-differs-clause-told g c =
    let root = c.args.tree.leaves / 2 ^ c.args.level - 1 in
    let has = one_root c.args.tree.leaves c.args.level c.if-nodes-eq0.false in
    let place = root_place c.args.tree.leaves c.args.level c.if-nodes-eq0.false in
    let p = err_from_is_err_and c.from_residual.result c.from_residual.ensures.1 in
    rw (p.1, p.2) (told_map _ _ _ _ c.in_err-differs.ensures.value (λ (before after : Lists) told.
    root_stops c.args.tree (nodes_of (before.batches c.args.id) c.args.plan.now.history c.args.tree.era) c.args.level c.args.found.now root has place c.in_err-differs.field-0.0 c.args.found.now told))

pub returns-clause-told : goal.returns-clause-told
returns-clause-told g c =
    let S = g.N.Notary.state in
    let at = λ (batches : List Batch). nodes_of batches c.args.plan.now.history c.args.tree.era in
    let root = c.args.tree.leaves / 2 ^ c.args.level - 1 in
    let has = one_root c.args.tree.leaves c.args.level c.if-nodes-eq0.false in
    let place = root_place c.args.tree.leaves c.args.level c.if-nodes-eq0.false in
    let mid : A3dFound = record { granules = c.args.found.now.granules; checks = c.args.found.now.checks + 1 } in
    let asked = c.in_ok-differs.ensures in
    let below = c.descend.ensures in
    (reads_then c.args.id
    (λ (batches : List Batch). Compares c.args.tree.era (at batches c.args.level root) c.args.level root (Ok c.in_ok-differs.differs))
    (λ (batches : List Batch). GoesFrom c.args.tree (at batches) c.args.level root c.in_ok-differs.differs c.descend.result mid c.descend.new.found)
    (λ (batches : List Batch). GoesOver c.args.tree (at batches) (root_at_level c.args.tree.leaves c.args.level) c.descend.result c.args.found.now c.descend.new.found)
    (S c.args.notary.now) (S c.differs.new.notary) (S c.descend.new.notary)
    (record { told = asked.value; same = asked.same; frame = asked.frame })
    (record { told = below.told; same = below.same; frame = below.frame })
    (λ batches one two. root_goes c.args.tree (at batches) c.args.level c.args.found.now root has place c.in_ok-differs.differs c.descend.result mid c.descend.new.found refl refl one two)).told

pub returns-clause-above : goal.returns-clause-above
returns-clause-above g c =
    let root = c.args.tree.leaves / 2 ^ c.args.level - 1 in
    let mid : A3dFound = record { granules = c.args.found.now.granules; checks = c.args.found.now.checks + 1 } in
    λ start was. on_ok_weaker c.descend.result
    (λ more. above_root c.args.tree c.args.level start c.args.found.now was root c.in_ok-differs.differs mid c.descend.new.found c.if-nodes-eq0.false refl refl refl more)
    c.descend.ensures.more

pub returns-clause-same : goal.returns-clause-same
returns-clause-same g c = unchanged_then _ _ _ c.in_ok-differs.ensures.frame c.descend.ensures.frame c.in_ok-differs.ensures.same c.descend.ensures.same

pub returns-clause-frame : goal.returns-clause-frame
returns-clause-frame g c = goes_on_then _ _ _ c.in_ok-differs.ensures.frame c.descend.ensures.frame

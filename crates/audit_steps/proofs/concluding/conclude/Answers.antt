use Rattle.std.proofs.Common.{◌≡◌, ◌≤◌, ◌+◌, ◌-◌, arith}
use Rattle.disk_words.proofs.Frame.{goes_on_same}
use Rattle.history_model.specs.Stored.{stored}
use Rattle.digest_model.specs.Layout.{max_later}
use Rattle.audit_model.specs.Altered.{history_with}
use Rattle.validator.specs.Verdicts.{sealed_in}
use Rattle.validator.proofs.Validated.{told_sealed, as_read, same_calls}
use Rattle.audit_steps.proofs.Ending.{asked_behind}
use Rattle.audit_steps.proofs.concluding.conclude.Goals as goal

pub returns-in_err-count-clause-disk_frame : goal.returns-in_err-count-clause-disk_frame
returns-in_err-count-clause-disk_frame g c = goes_on_same (g.D.Disk.state c.args.disk.now)

pub returns-in-0-clause-disk_frame : goal.returns-in-0-clause-disk_frame
returns-in-0-clause-disk_frame g c = goes_on_same (g.D.Disk.state c.args.disk.now)

pub returns-in_default-clause-told : goal.returns-in_default-clause-told
returns-in_default-clause-told g c =
    let S = g.N.Notary.state in
    let some : 1 ≤ c.in_ok-count.count = omega (arith, c.in_default) in
    let all : c.in_ok-count.count - 1 + 1 ≡ c.in_ok-count.count = omega (arith, some) in
    as_read _ _ (g.D.Disk.state c.args.disk.now).reads c.conclude_sealed.ensures.told (λ bytes is at_end. told_sealed c.args.id c.args.now (S c.args.notary.now).limits (stored bytes) (c.in_ok-count.count - 1)
    (S c.args.notary.now).trace (S c.count.new.self).trace (S c.conclude_sealed.new.notary).trace (same_calls (S c.args.notary.now).trace (S c.count.new.self).trace c.in_ok-count.ensures.frame.traced c.in_ok-count.ensures.same.trace)
    (S c.args.notary.now).lists (S c.count.new.self).lists (S c.conclude_sealed.new.notary).lists
    (S c.count.new.self).limits c.conclude_sealed.result c.in_ok-count.ensures.frame.limits c.conclude_sealed.ensures.notary_frame.told.untold
    (rw all c.in_ok-count.ensures.value) c.in_ok-count.ensures.same.lists (is at_end))

pub returns-in_default-clause-few : goal.returns-in_default-clause-few
returns-in_default-clause-few g c =
    let S = g.N.Notary.state in
    as_read _ _ (g.D.Disk.state c.args.disk.now).reads c.conclude_sealed.ensures.few (λ bytes few at_end. asked_behind c.conclude_sealed.result (S c.args.notary.now).asked (S c.count.new.self).asked (S c.conclude_sealed.new.notary).asked (sealed_in (history_with c.args.id (stored bytes))) c.in_ok-count.ensures.asked (few at_end))

pub returns-in_default-clause-asked : goal.returns-in_default-clause-asked
returns-in_default-clause-asked g c =
    let S = g.N.Notary.state in
    asked_behind c.conclude_sealed.result (S c.args.notary.now).asked (S c.count.new.self).asked (S c.conclude_sealed.new.notary).asked (λ n. max_later) c.in_ok-count.ensures.asked c.conclude_sealed.ensures.asked

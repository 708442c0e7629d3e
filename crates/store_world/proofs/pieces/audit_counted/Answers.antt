use Rattle.std.proofs.Common.{Ok, Err}
use Rattle.std.proofs.lemmas.Result.{err_from_is_err_and}
use Rattle.store_world.specs.declared.fail.LineFail.TheVariants.{NoMemory}
use Rattle.store_world.proofs.Auditing.{audits, piece_of}
use Rattle.store_world.proofs.pieces.audit_counted.Goals as goal

pub returns-in_err-piece_told-in-Ok-clause-told : goal.returns-in_err-piece_told-in-Ok-clause-told
returns-in_err-piece_told-in-Ok-clause-told g c =
    let S = g.D.Disk.state in
    let N = g.N.Notary.state in
    let e = c.in-Ok.ensures in
    let p = err_from_is_err_and c.from_residual.result c.from_residual.ensures.1 in
    rw (p.1, p.2) (audits c.args.id c.args.now c.args.auditor.now c.step.new.self (Ok c.in-Ok.audit) (Err NoMemory) (S c.args.disk.now) (S c.step.new.disk) (N c.args.notary.now) (N c.step.new.notary) e.same
    (g.met.D.Disk.only_now c.args.disk.now) tt tt e.stands e.trace
    (piece_of c.args.id c.args.now c.args.auditor.now c.step.new.self (Ok c.in-Ok.audit) (N c.args.notary.now) (N c.step.new.notary) (S c.args.disk.now).reads e.more e.going e.unasked e.told e.goes_on e.nowhere))

pub returns-in-Ok-clause-told : goal.returns-in-Ok-clause-told
returns-in-Ok-clause-told g c =
    let S = g.D.Disk.state in
    let N = g.N.Notary.state in
    let e = c.in-Ok.ensures in
    audits c.args.id c.args.now c.args.auditor.now c.step.new.self (Ok c.in-Ok.audit) (Ok c.in_ok-piece_told-in-Ok.field-0) (S c.args.disk.now) (S c.step.new.disk) (N c.args.notary.now) (N c.step.new.notary) e.same
    (g.met.D.Disk.only_now c.args.disk.now) c.in_ok-piece_told-in-Ok.ensures.value tt e.stands e.trace
    (piece_of c.args.id c.args.now c.args.auditor.now c.step.new.self (Ok c.in-Ok.audit) (N c.args.notary.now) (N c.step.new.notary) (S c.args.disk.now).reads e.more e.going e.unasked e.told e.goes_on e.nowhere)

pub returns-clause-told : goal.returns-clause-told
returns-clause-told g c =
    let S = g.D.Disk.state in
    let N = g.N.Notary.state in
    let e = c.in-Err.ensures in
    audits c.args.id c.args.now c.args.auditor.now c.step.new.self (Err c.in-Err.fail) c.answer_to.result (S c.args.disk.now) (S c.step.new.disk) (N c.args.notary.now) (N c.step.new.notary) e.same
    (g.met.D.Disk.only_now c.args.disk.now) c.answer_to.ensures.value e.none_other e.stands e.trace
    (piece_of c.args.id c.args.now c.args.auditor.now c.step.new.self (Err c.in-Err.fail) (N c.args.notary.now) (N c.step.new.notary) (S c.args.disk.now).reads e.more e.going e.unasked e.told e.goes_on e.nowhere)

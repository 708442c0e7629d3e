use Rattle.std.proofs.Common.{Ok, Err}
use Rattle.std.proofs.lemmas.Result.{err_from_is_err_and}
use Rattle.store_world.specs.declared.fail.LineFail.TheVariants.{NoMemory}
use Rattle.store_world.proofs.Validating.{without}
use Rattle.store_world.proofs.audits.answer_validation.Goals as goal

pub returns-in_err-found-in-Ok-clause-told : goal.returns-in_err-found-in-Ok-clause-told
returns-in_err-found-in-Ok-clause-told g c =
    let S = g.D.Disk.state in
    let N = g.N.Notary.state in
    let p = err_from_is_err_and c.from_residual.result c.from_residual.ensures.1 in
    rw (p.1, p.2) (without c.args.id c.args.now (S c.args.disk.now) (S c.validate.new.disk) (N c.args.notary.now) (N c.validate.new.notary) (Ok c.in-Ok.verdict) (Err NoMemory) c.in-Ok.ensures.same
    (g.met.D.Disk.only_now c.args.disk.now) tt c.in-Ok.ensures.trace c.in-Ok.ensures.told tt c.in-Ok.ensures.nowhere)

pub returns-in_ok-found-in-Ok-clause-told : goal.returns-in_ok-found-in-Ok-clause-told
returns-in_ok-found-in-Ok-clause-told g c =
    let S = g.D.Disk.state in
    let N = g.N.Notary.state in
    without c.args.id c.args.now (S c.args.disk.now) (S c.validate.new.disk) (N c.args.notary.now) (N c.validate.new.notary) (Ok c.in-Ok.verdict) (Ok c.in_ok-found-in-Ok.field-0) c.in-Ok.ensures.same
    (g.met.D.Disk.only_now c.args.disk.now) c.in_ok-found-in-Ok.ensures.value c.in-Ok.ensures.trace c.in-Ok.ensures.told tt c.in-Ok.ensures.nowhere

pub returns-in-Err-clause-told : goal.returns-in-Err-clause-told
returns-in-Err-clause-told g c =
    let S = g.D.Disk.state in
    let N = g.N.Notary.state in
    without c.args.id c.args.now (S c.args.disk.now) (S c.validate.new.disk) (N c.args.notary.now) (N c.validate.new.notary) (Err c.in-Err.fail) c.answer_to.result c.in-Err.ensures.same
    (g.met.D.Disk.only_now c.args.disk.now) c.answer_to.ensures.value c.in-Err.ensures.trace c.in-Err.ensures.told c.in-Err.ensures.none_other c.in-Err.ensures.nowhere

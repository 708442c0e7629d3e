use Rattle.std.proofs.Common.{Ok, Err}
use Rattle.std.proofs.lemmas.Result.{err_from_is_err_and}
use Rattle.validator.specs.declared.turned.Turned.{Turned}
use Rattle.store_world.specs.declared.fail.LineFail.TheVariants.{NoMemory}
use Rattle.store_world.proofs.Notarizing.{stays_header}
use Rattle.store_world.proofs.Turning.{policy}
use Rattle.store_world.proofs.audits.answer_policy.Goals as goal

pub returns-in_err-turned-in-Ok-clause-told : goal.returns-in_err-turned-in-Ok-clause-told
returns-in_err-turned-in-Ok-clause-told g c now kept auditing =
    let S = g.D.Disk.state in
    let N = g.N.Notary.state in
    let p = err_from_is_err_and c.from_residual.result c.from_residual.ensures.1 in
    rw (p.1, p.2) (policy c.args.k c.args.algs now c.args.store.now c.policy.new.store (S c.args.disk.now) (S c.policy.new.disk) (N c.args.notary.now) (N c.policy.new.notary) c.requires.open c.in-Ok.ensures.open.0
    (g.met.D.Disk.only_now c.args.disk.now) (Ok c.in-Ok.era) (Err NoMemory) tt tt c.in-Ok.ensures.unfiled kept auditing c.in-Ok.ensures.told)

pub returns-in_ok-turned-in-Ok-clause-told : goal.returns-in_ok-turned-in-Ok-clause-told
returns-in_ok-turned-in-Ok-clause-told g c now kept auditing =
    let S = g.D.Disk.state in
    let N = g.N.Notary.state in
    policy c.args.k c.args.algs now c.args.store.now c.policy.new.store (S c.args.disk.now) (S c.policy.new.disk) (N c.args.notary.now) (N c.policy.new.notary) c.requires.open c.in-Ok.ensures.open.0
    (g.met.D.Disk.only_now c.args.disk.now) (Ok c.in-Ok.era) (Ok c.in_ok-turned-in-Ok.field-0) c.in_ok-turned-in-Ok.ensures.value tt c.in-Ok.ensures.unfiled kept auditing c.in-Ok.ensures.told

pub returns-in-Err-clause-told : goal.returns-in-Err-clause-told
returns-in-Err-clause-told g c now kept auditing =
    let S = g.D.Disk.state in
    let N = g.N.Notary.state in
    policy c.args.k c.args.algs now c.args.store.now c.policy.new.store (S c.args.disk.now) (S c.policy.new.disk) (N c.args.notary.now) (N c.policy.new.notary) c.requires.open
    (stays_header {A = Turned} (Err c.in-Err.fail) c.args.store.now c.policy.new.store c.in-Err.ensures.open)
    (g.met.D.Disk.only_now c.args.disk.now) (Err c.in-Err.fail) c.answer_to.result c.answer_to.ensures.value c.in-Err.ensures.none_other c.in-Err.ensures.unfiled kept auditing c.in-Err.ensures.told

use Rattle.std.proofs.Common.{ℕ, Ok, Err}
use Rattle.std.proofs.lemmas.Result.{err_from_is_err_and}
use Rattle.store_world.specs.declared.fail.LineFail.TheVariants.{NoMemory}
use Rattle.store_world.proofs.Notarizing.{notarization, stays_header}
use Rattle.store_world.proofs.audits.answer_notarization.Goals as goal

pub returns-in_err-sealed-in-Ok-clause-told : goal.returns-in_err-sealed-in-Ok-clause-told
returns-in_err-sealed-in-Ok-clause-told g c kept auditing =
    let S = g.D.Disk.state in
    let N = g.N.Notary.state in
    let p = err_from_is_err_and c.from_residual.result c.from_residual.ensures.1 in
    rw (p.1, p.2) (notarization c.args.now c.args.store.now c.notarize.new.store (S c.args.disk.now) (S c.notarize.new.disk) (N c.args.notary.now) (N c.notarize.new.notary) c.requires.open c.in-Ok.ensures.open.0
    (g.met.D.Disk.only_now c.args.disk.now) (Ok c.in-Ok.tiles) (Err NoMemory) tt c.in-Ok.ensures.early tt kept auditing c.in-Ok.ensures.told)

pub returns-in_ok-sealed-in-Ok-clause-told : goal.returns-in_ok-sealed-in-Ok-clause-told
returns-in_ok-sealed-in-Ok-clause-told g c kept auditing =
    let S = g.D.Disk.state in
    let N = g.N.Notary.state in
    notarization c.args.now c.args.store.now c.notarize.new.store (S c.args.disk.now) (S c.notarize.new.disk) (N c.args.notary.now) (N c.notarize.new.notary) c.requires.open c.in-Ok.ensures.open.0
    (g.met.D.Disk.only_now c.args.disk.now) (Ok c.in-Ok.tiles) (Ok c.in_ok-sealed-in-Ok.field-0) c.in_ok-sealed-in-Ok.ensures.value c.in-Ok.ensures.early tt kept auditing c.in-Ok.ensures.told

pub returns-in-Err-clause-told : goal.returns-in-Err-clause-told
returns-in-Err-clause-told g c kept auditing =
    let S = g.D.Disk.state in
    let N = g.N.Notary.state in
    notarization c.args.now c.args.store.now c.notarize.new.store (S c.args.disk.now) (S c.notarize.new.disk) (N c.args.notary.now) (N c.notarize.new.notary) c.requires.open
    (stays_header {A = ℕ} (Err c.in-Err.fail) c.args.store.now c.notarize.new.store c.in-Err.ensures.open)
    (g.met.D.Disk.only_now c.args.disk.now) (Err c.in-Err.fail) c.answer_to.result c.answer_to.ensures.value c.in-Err.ensures.early c.in-Err.ensures.turn kept auditing c.in-Err.ensures.told

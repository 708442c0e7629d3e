use Rattle.std.proofs.Common.{◌≡◌, Err, rules}
use Rattle.notary_book.proofs.Storing.{cut_stopped, cut_synced}
use Rattle.notary_book.proofs.adding.clear.Goals as goal

pub returns-in_err-cut-clause-told : goal.returns-in_err-cut-clause-told
returns-in_err-cut-clause-told g c =
    let S = g.D.Disk.state in
    let same : c.from_residual.result ≡ Err c.in_err-cut.field-0.0 = search rules in
    rw same (cut_stopped (S c.args.disk.now) (g.met.D.Disk.only_now c.args.disk.now) c.in_err-cut.field-0.0 (S c.cut.new.self) c.in_err-cut.ensures.change)

pub returns-clause-told : goal.returns-clause-told
returns-clause-told g c =
    let S = g.D.Disk.state in
    cut_synced (S c.args.disk.now) (g.met.D.Disk.only_now c.args.disk.now) (S c.cut.new.self) (S c.sync.new.self) c.sync.result c.in_ok-cut.ensures.frame c.in_ok-cut.ensures.change c.sync.ensures.change

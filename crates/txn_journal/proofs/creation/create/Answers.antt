use Rattle.std.proofs.Common.{◌≡◌, true, Ok, Err, rules}
use Rattle.txn_journal.specs.Fail.{fail_of}
use Rattle.txn_journal.proofs.HalfMade.{creates_told, not_begun}
use Rattle.txn_journal.proofs.creation.create.Goals as goal

pub returns-in_err-is_free-clause-told : goal.returns-in_err-is_free-clause-told
returns-in_err-is_free-clause-told g c =
    let S = g.D.Disk.state in
    let same : c.from_residual.result ≡ Err (fail_of c.in_err-is_free.field-0.0) = search rules in
    rw same (not_begun g.S.Shape.is_head g.S.Shape.shape c.args.head.now c.told-head c.requires.gate c.requires.head c.in_err-is_free.field-0.0 (S c.args.disk.now) (S c.is_free.new.disk) (g.met.D.Disk.only_now c.args.disk.now) c.is_free.ensures.same)

pub returns-in_err-make-clause-told : goal.returns-in_err-make-clause-told
returns-in_err-make-clause-told g c =
    let S = g.D.Disk.state in
    let same : c.from_residual-in_err-make.result ≡ Err (fail_of c.in_err-make.field-0.0) = search rules in
    let is_free : c.in_ok-is_free.field-0 ≡ true = search rules in
    let free = rw is_free at c.in_ok-is_free.ensures.meaning in
    rw same (creates_told g.S.Shape.is_head g.S.Shape.shape c.args.head.now c.told-head c.requires.gate c.requires.head (Err c.in_err-make.field-0.0) (S c.args.disk.now) (S c.is_free.new.disk) (S c.make.new.disk) (g.met.D.Disk.only_now c.args.disk.now) c.is_free.ensures.same free c.in_err-make.ensures.told)

pub returns-clause-told : goal.returns-clause-told
returns-clause-told g c =
    let S = g.D.Disk.state in
    let is_free : c.in_ok-is_free.field-0 ≡ true = search rules in
    let free = rw is_free at c.in_ok-is_free.ensures.meaning in
    creates_told g.S.Shape.is_head g.S.Shape.shape c.args.head.now c.told-head c.requires.gate c.requires.head (Ok tt) (S c.args.disk.now) (S c.is_free.new.disk) (S c.make.new.disk) (g.met.D.Disk.only_now c.args.disk.now) c.is_free.ensures.same free c.in_ok-make.ensures.told

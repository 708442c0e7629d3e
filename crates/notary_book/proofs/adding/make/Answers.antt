use Rattle.std.proofs.Common.{◌≡◌, Err, rules}
use Rattle.disk_words.proofs.Frame.{goes_on_then}
use Rattle.notary_book.proofs.Refusals.{only_created, only_opened, end_opened}
use Rattle.notary_book.proofs.Telling.{if_any}
use Rattle.notary_book.proofs.Storing.{not_created, not_opened, opened}
use Rattle.notary_book.proofs.adding.make.Goals as goal

pub returns-in_err-create-clause-told : goal.returns-in_err-create-clause-told
returns-in_err-create-clause-told g c =
    let S = g.D.Disk.state in
    let fail = c.in_err-create.field-0.0 in
    let same : c.from_residual-in_err-create.result ≡ Err fail = search rules in
    let created = rw c.book_head.ensures.value at c.in_err-create.ensures.told in
    rw same (not_created (S c.args.disk.now) (S c.clear.new.disk) c.in_ok-clear.ensures.frame c.in_ok-clear.ensures.told (S c.create.new.disk) fail fail created)

pub returns-in_err-opened-clause-told : goal.returns-in_err-opened-clause-told
returns-in_err-opened-clause-told g c =
    let S = g.D.Disk.state in
    let fail = c.in_err-opened.field-0.0 in
    let same : c.from_residual-in_err-opened.result ≡ Err fail = search rules in
    let created = rw c.book_head.ensures.value at c.in_ok-create.ensures.told in
    rw same (not_opened (S c.args.disk.now) (S c.clear.new.disk) c.in_ok-clear.ensures.frame c.in_ok-clear.ensures.told (S c.create.new.disk) c.in_ok-create.ensures.frame created (S c.open_journal.new.disk) c.in_err-opened.ensures.same fail)

pub returns-clause-told : goal.returns-clause-told
returns-clause-told g c =
    let S = g.D.Disk.state in
    let o = c.in_ok-opened.opened in
    let created = rw c.book_head.ensures.value at c.in_ok-create.ensures.told in
    opened (S c.args.disk.now) (S c.clear.new.disk) c.in_ok-clear.ensures.frame c.in_ok-clear.ensures.told (S c.create.new.disk) c.in_ok-create.ensures.frame created (S c.open_journal.new.disk) c.in_ok-opened.ensures.same o.head o.payloads o.journal c.in_ok-opened.ensures.value

pub returns-in_err-create-clause-only : goal.returns-in_err-create-clause-only
returns-in_err-create-clause-only g c =
    let S = g.D.Disk.state in
    let fail = c.in_err-create.field-0.0 in
    let same : c.from_residual-in_err-create.result ≡ Err fail = search rules in
    let created = rw c.book_head.ensures.value at c.in_err-create.ensures.told in
    rw same (only_created (S c.args.disk.now) (S c.clear.new.disk) (S c.create.new.disk) c.in_ok-clear.ensures.frame c.in_ok-clear.ensures.told c.in_err-create.ensures.frame fail created)

pub returns-in_err-opened-clause-only : goal.returns-in_err-opened-clause-only
returns-in_err-opened-clause-only g c =
    let S = g.D.Disk.state in
    let fail = c.in_err-opened.field-0.0 in
    let same : c.from_residual-in_err-opened.result ≡ Err fail = search rules in
    let created = rw c.book_head.ensures.value at c.in_ok-create.ensures.told in
    rw same (only_opened (S c.args.disk.now) (S c.clear.new.disk) (S c.create.new.disk) c.in_ok-clear.ensures.frame c.in_ok-clear.ensures.told c.in_ok-create.ensures.frame created fail c.in_err-opened.ensures.value)

pub returns-in_err-opened-clause-gate : goal.returns-in_err-opened-clause-gate
returns-in_err-opened-clause-gate g c =
    let same : c.from_residual-in_err-opened.result ≡ Err c.in_err-opened.field-0.0 = search rules in
    rw same (if_any (g.D.Disk.state c.args.disk.now).reads (λ b. tt))

pub returns-clause-gate : goal.returns-clause-gate
returns-clause-gate g c =
    let S = g.D.Disk.state in
    let o = c.in_ok-opened.opened in
    let created = rw c.book_head.ensures.value at c.in_ok-create.ensures.told in
    end_opened (S c.args.disk.now) (S c.clear.new.disk) (S c.create.new.disk) c.in_ok-clear.ensures.frame c.in_ok-clear.ensures.told c.in_ok-create.ensures.frame created o.head o.payloads o.journal c.in_ok-opened.ensures.value

pub returns-in_err-create-clause-frame : goal.returns-in_err-create-clause-frame
returns-in_err-create-clause-frame g c = goes_on_then _ _ _ c.in_ok-clear.ensures.frame c.in_err-create.ensures.frame

pub returns-in_err-opened-clause-frame : goal.returns-in_err-opened-clause-frame
returns-in_err-opened-clause-frame g c = goes_on_then _ _ _ (goes_on_then _ _ _ c.in_ok-clear.ensures.frame c.in_ok-create.ensures.frame) c.in_err-opened.ensures.frame

pub returns-clause-frame : goal.returns-clause-frame
returns-clause-frame g c = goes_on_then _ _ _ (goes_on_then _ _ _ c.in_ok-clear.ensures.frame c.in_ok-create.ensures.frame) c.in_ok-opened.ensures.frame

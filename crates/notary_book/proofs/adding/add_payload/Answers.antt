use Rattle.std.proofs.Common.{◌≡◌, Err, rules}
use Rattle.disk_words.proofs.Frame.{goes_on_then}
use Rattle.notary_book.proofs.Storing.{not_appended, appended}
use Rattle.notary_book.proofs.adding.add_payload.Goals as goal

pub returns-in_err-append-clause-told : goal.returns-in_err-append-clause-told
returns-in_err-append-clause-told g c =
    let S = g.D.Disk.state in
    let fail = c.in_err-append.field-0.0 in
    let same : c.from_residual-in_err-append.result ≡ Err fail = search rules in
    rw same (not_appended c.args.journal c.args.payload.now c.in_ok-journal.journal (S c.args.disk.now) (S c.started.new.disk) (S c.append.new.disk) c.in_ok-journal.ensures.frame c.in_ok-journal.ensures.told fail fail c.in_err-append.ensures.told)

pub returns-in_err-append-clause-frame : goal.returns-in_err-append-clause-frame
returns-in_err-append-clause-frame g c = goes_on_then _ _ _ c.in_ok-journal.ensures.frame c.in_err-append.ensures.frame

pub returns-clause-told : goal.returns-clause-told
returns-clause-told g c =
    let S = g.D.Disk.state in
    appended c.args.journal c.args.payload.now c.in_ok-journal.journal (S c.args.disk.now) (S c.started.new.disk) (S c.append.new.disk) c.in_ok-journal.ensures.frame c.in_ok-journal.ensures.told c.append.new.self c.in_ok-append.ensures.moves c.in_ok-append.ensures.told

pub returns-clause-frame : goal.returns-clause-frame
returns-clause-frame g c = goes_on_then _ _ _ c.in_ok-journal.ensures.frame c.in_ok-append.ensures.frame

use Rattle.disk_words.proofs.Frame.{goes_on_same}
use Rattle.txn_journal.proofs.Gathering.{behind_found}
use Rattle.txn_journal.proofs.opening.open_journal.Goals as goal

pub returns-in-Some-clause-value : goal.returns-in-Some-clause-value
returns-in-Some-clause-value g c =
    behind_found g.S.Shape.is_head _ (g.D.Disk.state c.args.disk.now).reads (g.D.Disk.state c.read_head.new.disk).reads c.in_ok-head.field-0 c.in-Some.head c.read_head.new.self c.open_behind_head.result c.read_head.ensures.same.reads c.in-Some.is c.in_ok-head.ensures.value c.read_head.ensures.seen c.open_behind_head.ensures.value c.open_behind_head.ensures.none_other

pub returns-in_err-records-clause-frame : goal.returns-in_err-records-clause-frame
returns-in_err-records-clause-frame g c = goes_on_same _

use Rattle.txn_journal.specs.Window.{seen_by, room_of}
use Rattle.txn_journal.proofs.Heads.{told_head, told_front}
use Rattle.txn_journal.proofs.records.Records.read_head.Goals as goal

pub returns-clause-value : goal.returns-clause-value
returns-clause-value g c =
    let w = c.refill.new.self in
    told_head g.S.Shape.is_head w.begin (room_of c.self.inside.window) (g.D.Disk.state c.args.disk.now).reads (seen_by w) c.seen_from.result.now c.head_of-head.result c.self.invariant.3 c.in_ok-refill.ensures.value c.seen_from.ensures.value c.head_of-head.ensures.value

pub returns-clause-seen : goal.returns-clause-seen
returns-clause-seen g c = told_front (g.D.Disk.state c.args.disk.now).reads (room_of c.self.inside.window) _ c.refill.ensures.begin c.in_ok-refill.ensures.value

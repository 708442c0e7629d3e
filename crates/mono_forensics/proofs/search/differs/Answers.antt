use Rattle.std.proofs.Common.{length}
use Rattle.mono_forensics.proofs.Always.{none_absent}
use Rattle.mono_forensics.proofs.search.differs.Goals as goal

-- no tile is absent

pub returns-in-Absent-clause-always : goal.returns-in-Absent-clause-always
returns-in-Absent-clause-always g c sure holds =
    let S = g.N.Notary.state in
    let answered = rw c.in-Absent.is at c.in_ok-ask.ensures.value in
    absurd (none_absent g.N.Notary.asking_takes_memory (S c.args.notary.now) (S c.ask.new.self) sure c.ask.ensures.frame c.ask.ensures.same c.args.id c.args.tile (length c.args.links.now) _ c.requires.within holds answered)

use Rattle.forensic_report.proofs.BytesRead.{held_behind}
use Rattle.forensic_report.proofs.analysing.analyse.Goals as goal

pub returns-clause-held : goal.returns-clause-held
returns-clause-held g c =
    let S = g.N.Notary.state in
    held_behind c.args.id (S c.args.notary.now).lists (S c.find.new.notary).lists (S c.write_report.new.notary).lists
    c.in_ok-text.ensures.frame.told.untold c.in_ok-analysis.ensures.same.lists (g.D.Disk.state c.args.disk.now).reads c.in_ok-analysis.ensures.held

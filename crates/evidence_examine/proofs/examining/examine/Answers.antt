use Rattle.notary_link.proofs.Frame.{goes_on_same}
use Rattle.evidence_examine.proofs.examining.examine.Goals as goal

pub returns-in_err-evidence-clause-frame : goal.returns-in_err-evidence-clause-frame
returns-in_err-evidence-clause-frame g c = goes_on_same (g.N.Notary.state c.args.notary.now)

pub returns-in-None-clause-frame : goal.returns-in-None-clause-frame
returns-in-None-clause-frame g c = goes_on_same (g.N.Notary.state c.args.notary.now)

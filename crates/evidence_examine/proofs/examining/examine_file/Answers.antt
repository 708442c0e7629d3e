use Rattle.notary_link.proofs.Frame.{goes_on_same}
use Rattle.evidence_examine.proofs.examining.examine_file.Goals as goal

pub returns-else-evidence-id-clause-frame : goal.returns-else-evidence-id-clause-frame
returns-else-evidence-id-clause-frame g c = goes_on_same (g.N.Notary.state c.args.notary.now)

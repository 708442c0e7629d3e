use Rattle.std.proofs.Common.{[]}
use Rattle.notary_link.proofs.Frame.{goes_on_same}
use Rattle.forensic_report.specs.Analysis.{Unsealed, HeaderAltered}
use Rattle.forensic_report.specs.Texts.{Kept}
use Rattle.forensic_report.proofs.Whole.{report_begins}
use Rattle.forensic_report.proofs.text.put_report.Goals as goal

nothing_kept : Kept
nothing_kept = record { batches = []; marks = []; now = 0 }

pub returns-in_err-put_unsealed-in-Unsealed-clause-frame :
    goal.returns-in_err-put_unsealed-in-Unsealed-clause-frame
returns-in_err-put_unsealed-in-Unsealed-clause-frame g c = goes_on_same (g.N.Notary.state c.args.notary.now)

pub returns-in_err-put_header_altered-in-HeaderAltered-clause-frame :
    goal.returns-in_err-put_header_altered-in-HeaderAltered-clause-frame
returns-in_err-put_header_altered-in-HeaderAltered-clause-frame g c = goes_on_same (g.N.Notary.state c.args.notary.now)

pub returns-in_ok-put_unsealed-in-Unsealed-clause-begins :
    goal.returns-in_ok-put_unsealed-in-Unsealed-clause-begins
returns-in_ok-put_unsealed-in-Unsealed-clause-begins g c =
    rw c.in-Unsealed.is (report_begins c.args.request.algorithm c.args.request.id nothing_kept (Unsealed c.in-Unsealed.era) c.args.out.now.items c.put_unsealed.new.out.items (c.in_ok-put_unsealed-in-Unsealed.ensures.ok nothing_kept))

pub returns-in_ok-put_unsealed-in-Unsealed-clause-frame :
    goal.returns-in_ok-put_unsealed-in-Unsealed-clause-frame
returns-in_ok-put_unsealed-in-Unsealed-clause-frame g c = goes_on_same (g.N.Notary.state c.args.notary.now)

pub returns-in_ok-put_header_altered-in-HeaderAltered-clause-begins :
    goal.returns-in_ok-put_header_altered-in-HeaderAltered-clause-begins
returns-in_ok-put_header_altered-in-HeaderAltered-clause-begins g c =
    rw c.in-HeaderAltered.is (report_begins c.args.request.algorithm c.args.request.id nothing_kept (HeaderAltered c.in-HeaderAltered.tiles) c.args.out.now.items c.put_header_altered.new.out.items (c.in_ok-put_header_altered-in-HeaderAltered.ensures.ok nothing_kept))

pub returns-in_ok-put_header_altered-in-HeaderAltered-clause-frame :
    goal.returns-in_ok-put_header_altered-in-HeaderAltered-clause-frame
returns-in_ok-put_header_altered-in-HeaderAltered-clause-frame g c = goes_on_same (g.N.Notary.state c.args.notary.now)

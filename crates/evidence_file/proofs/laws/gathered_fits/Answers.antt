use Rattle.evidence_file.proofs.Gathered.{gathered_fits}
use Rattle.evidence_file.proofs.laws.gathered_fits.Goals as goal

pub returns : goal.returns
returns c = record { files = gathered_fits }

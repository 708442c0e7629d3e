use Rattle.forensic_report.proofs.Layouts.{ranges_shared}
use Rattle.forensic_report.proofs.laws.ranges_are_shared.Goals as goal

pub returns : goal.returns
returns c = ranges_shared

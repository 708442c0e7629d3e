use Rattle.a3d_forensics.proofs.Notarized.{none_found, none_stops}
use Rattle.a3d_forensics.proofs.laws.notarized_has_none.Goals as goal

pub returns : goal.returns
returns c = λ batches id h era n filed has. (none_found batches id n h era filed has, none_stops batches id n h era filed has)

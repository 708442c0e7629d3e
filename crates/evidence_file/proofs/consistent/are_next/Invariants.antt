use Rattle.std.proofs.Common.{◌≡◌, drop}
use Rattle.digest_model.specs.Layout.{first_era}
use Rattle.evidence_file.specs.Evidence.{are_next}
use Rattle.evidence_file.proofs.consistent.are_next.Given as goal

abbrev pub invariant-loop-era : goal.invariant-loop-era
invariant-loop-era l = are_next l.kept (drop l.era-index l.eras) ≡ are_next (first_era l.header) l.eras

use Rattle.std.proofs.Common.{List, ℕ, ◌-◌, ◌<◌, Some, length, max}
use Rattle.std.specs.List.{All}
use Rattle.byte_grammar.specs.Gated.{FitsRecord}
use Rattle.txn_journal.proofs.Gathering.{IsGathering}
use Rattle.txn_journal.proofs.opening.open_behind_head.Given as goal

abbrev pub invariant-records : goal.invariant-records
invariant-records g l = record {
  gathering : IsGathering (λ (p : List ℕ). Some p) g.S.Shape.shape (g.D.Disk.state l.initial.disk) (g.D.Disk.state l.disk) l.initial.records l.records l.payloads;
  fit : All (FitsRecord g.S.Shape.shape) l.payloads;
  few : length l.payloads < l.records.place;
  within : l.records.place < max 65 g.S.Shape.shape.max_file;
}

abbrev pub decreases-records : goal.decreases-records
decreases-records g l = g.S.Shape.shape.max_file - l.records.place

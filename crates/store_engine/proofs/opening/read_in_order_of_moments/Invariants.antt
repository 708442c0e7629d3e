use Rattle.std.proofs.Common.{◌-◌}
use Rattle.history_model.specs.Stored.{max_file}
use Rattle.store_engine.proofs.Replaying.{IsGatheringTxns}
use Rattle.store_engine.proofs.opening.read_in_order_of_moments.Given as goal

abbrev pub invariant-records : goal.invariant-records
invariant-records g l = IsGatheringTxns (g.D.Disk.state l.initial.disk) (g.D.Disk.state l.disk) l.initial.records l.records l.header l.gathered l.chains

abbrev pub decreases-records : goal.decreases-records
decreases-records g l = max_file - l.records.reading.place

use Rattle.std.proofs.Common.{ℕ, ◌≤◌, take}
use Rattle.std.specs.List.{AllByRecursion}
use Rattle.tuple_bytes.specs.declared.item.Txn.{Txn}
use Rattle.tt_table.specs.Stands.{StandsFor}
use Rattle.store_engine.proofs.replay.apply_all.Given as goal

abbrev pub invariant-loop-txn : goal.invariant-loop-txn
invariant-loop-txn l = record {
  stands : StandsFor l.tables (take l.txn-index l.txns);
  end : (last : ℕ) → AllByRecursion (λ (t : Txn). t.moment ≤ last) (take l.txn-index l.txns) → l.tables.last ≤ last;
}

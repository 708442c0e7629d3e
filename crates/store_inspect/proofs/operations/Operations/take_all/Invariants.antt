use Rattle.std.proofs.Common.{◌≡◌, ◌++◌, take}
use Rattle.history_model.specs.State.{after_ops}
use Rattle.store_inspect.specs.Items.{misfits_from, unsayable_from}
use Rattle.store_inspect.proofs.operations.Operations.take_all.Given as goal

-- the tables after the operations so far, and those of them that don't fit
abbrev pub invariant-loop-i : goal.invariant-loop-i
invariant-loop-i l = record {
  tables : l.self.tables ≡ after_ops (take l.i l.op-items) l.initial.self.tables;
  misfits : l.self.misfits.items ≡ l.initial.self.misfits.items ++ misfits_from l.place 1 (take l.i l.op-items) l.initial.self.tables;
  unsayable_are : l.self.unsayable.items ≡ l.initial.self.unsayable.items ++ unsayable_from l.place 1 (take l.i l.op-items);
}

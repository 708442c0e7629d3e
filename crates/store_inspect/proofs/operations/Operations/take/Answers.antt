use Rattle.std.proofs.Common.{Result, Ok, Err, OnOk}
use Rattle.store_inspect.proofs.Fitting.{operations_txn, operations_others}
use Rattle.store_inspect.proofs.operations.Operations.take.Goals as goal

on_three : {T E : Type 0} {P Q R S : Type 0} (r : Result T E) → (P → Q → R → S) → OnOk r P → OnOk r Q → OnOk r R → OnOk r S
on_three (Ok x) f p q s = f p q s
on_three (Err e) f p q s = tt

pub returns-in-Txn : goal.returns-in-Txn
returns-in-Txn c = record {
  value = on_three c.take_all.result (λ tables misfits others before at known. rw c.in-Txn.is (operations_txn c.args.self.now c.take_all.new.self c.in-Txn.txn c.args.place tables misfits others before at known))
      c.take_all.ensures.tables c.take_all.ensures.misfits c.take_all.ensures.unsayable;
}

pub returns-in-Frontier : goal.returns-in-Frontier
returns-in-Frontier c = record { value = λ before at known. operations_others c.args.self.now c.args.item c.in-Frontier.is before known }

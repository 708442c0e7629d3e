use Rattle.file_findings.proofs.Steps.{on_both}
use Rattle.store_inspect.proofs.Numbering.{numbers_txn, numbers_others}
use Rattle.store_inspect.proofs.numbers.Numbers.take.Goals as goal

pub returns-in-Txn : goal.returns-in-Txn
returns-in-Txn c = record {
  value = on_both c.take_number.result (λ last gaps before at known. rw c.in-Txn.is (numbers_txn c.args.self.now c.take_number.new.self c.in-Txn.txn c.args.place last gaps before at known)) c.take_number.ensures.last c.take_number.ensures.gaps;
}

pub returns-in-Frontier : goal.returns-in-Frontier
returns-in-Frontier c = record { value = λ before at known. numbers_others c.args.self.now c.args.item.now c.in-Frontier.is before known }

pub returns-in-Frontier-2 : goal.returns-in-Frontier-2
returns-in-Frontier-2 c = record { value = λ before at known. numbers_others c.args.self.now c.args.item.now c.in-Frontier.is before known }

use Rattle.std.proofs.Common.{OnErr, Result, Ok, Err, refl}
use Rattle.std.proofs.lemmas.Result.{on_ok_weaker}
use Rattle.tuple_bytes.specs.Writing.{txn_by}
use Rattle.store_engine.proofs.Telling.{tells_txn}
use Rattle.store_engine.proofs.contents.Contents.add.Goals as goal

any_err : {T E P : Type 0} (r : Result T E) → P → OnErr r P
any_err (Ok t) p = tt
any_err (Err e) p = p

pub returns-in-Txn-clause-err : goal.returns-in-Txn-clause-err
returns-in-Txn-clause-err c = any_err c.apply.result (c.apply.new.self, rw (c.in-Txn.is, c.max-self.ensures) refl)

pub returns-in-Txn-clause-tells : goal.returns-in-Txn-clause-tells
returns-in-Txn-clause-tells c =
    on_ok_weaker c.apply.result (λ stands. rw c.in-Txn.is (tells_txn c.args.self.now (txn_by c.in-Txn.number c.in-Txn.moment c.in-Txn.ops.now) c.apply.new.self c.max-self.result c.max-self.ensures (λ ts. stands ts c.in-Txn.number))) c.apply.ensures.stands

use Rattle.std.proofs.Common.{◌≤◌, sym, subst, arith}
use Rattle.std.specs.List.{AllByRecursion}
use Rattle.tuple_bytes.specs.declared.item.Txn.{Txn}
use Rattle.tt_table.proofs.Law.{stands_empty}
use Rattle.store_engine.proofs.Telling.{none_later_before, take_all}
use Rattle.store_engine.proofs.replay.apply_all.Goals as goal

pub loop-txn-init : goal.loop-txn-init
loop-txn-init c = rw c.new-tables.ensures.value (record { stands = stands_empty; end = λ last h. omega arith })

pub apply-requires : goal.apply-requires
apply-requires c =
    c.loop-txn.invariant.end c.txn-item.result.moment (none_later_before c.args.txns.now c.loop-txn.txn-index c.txn-item.result c.requires.rise c.loop-txn-test.true c.txn-item.is)

pub returns-clause-in_time : goal.returns-clause-in_time
returns-clause-in_time c =
    λ last all. c.loop-txn.invariant.end last (subst (AllByRecursion (λ (t : Txn). t.moment ≤ last)) (sym (take_all c.loop-txn.txn-index c.args.txns.now c.loop-txn-test.false)) all)

use Rattle.std.proofs.Common.{rules}
use Rattle.std.proofs.lemmas.List.Sorted.{IsNonDecreasingBy-from_sort_by_key, answers_always}
use Rattle.std.proofs.lemmas.Result.{on_ok_weaker}
use Rattle.tuple_bytes.specs.declared.item.Txn.{Txn}
use Rattle.store_engine.proofs.Reordering.{stable_at}
use Rattle.store_engine.proofs.replay.sort_by_moment.Goals as goal

pub returns-clause-rise : goal.returns-clause-rise
returns-clause-rise c =
    on_ok_weaker c.sort_by_key.result (λ sorted. IsNonDecreasingBy-from_sort_by_key (λ (t : Txn). t.moment) _ sorted (λ a r q k. search rules)) c.sort_by_key.ensures.sorted

pub returns-clause-same : goal.returns-clause-same
returns-clause-same c =
    let keys = answers_always _ _ _ (λ f a r next called. search rules) in
    on_ok_weaker c.sort_by_key.result (λ sorted. stable_at _ _ (c.sort_by_key.ensures.stable (λ (t : Txn). t.moment) keys)) c.sort_by_key.ensures.sorted

use Rattle.std.proofs.Common.{◌≡◌, ◌≤◌, ℕ, List, length, sym, ap, subst, arith}
use Rattle.std.specs.List.{AllByRecursion}
use Rattle.tuple_bytes.specs.declared.item.Txn.{Txn}
use Rattle.history_model.specs.History.{txns, last_moment}
use Rattle.history_model.specs.Stored.{items_of}
use Rattle.tt_table.specs.Stands.{StandsFor}
use Rattle.store_engine.proofs.Telling.{none_above}
use Rattle.store_engine.proofs.Reordering.{all_reordered, stands_reordered}
use Rattle.store_engine.proofs.replay.Gathered.in_order_of_moments.Goals as goal

pub overflow_cast-result : goal.overflow_cast-result
overflow_cast-result c = omega (arith, c.sort_by_moment.ensures.as_many, c.len.ensures, c.requires.few)

pub returns : goal.returns
returns c =
    let file = c.args.self.txns.items in
    let sorted = c.sort_by_moment.new.txns.items in
    let tables = c.in_ok-tables.tables in
    let same = c.in_ok-sort_by_moment.ensures.same in
    let back = λ (m : ℕ). sym (same m) in
    let stands : StandsFor tables sorted = subst (StandsFor tables) c.deref.ensures.value c.in_ok-tables.ensures.value in
    record {
      value = λ header payloads gathered.
          let items = items_of payloads in
          let many : length file ≡ length (txns items) = ap (λ (ts : List Txn). length ts) gathered.txns_are in
          let none = subst (AllByRecursion (λ (t : Txn). t.moment ≤ last_moment items)) (sym gathered.txns_are) (none_above items 0) in
          let all = all_reordered file sorted same (λ (t : Txn). t.moment ≤ last_moment items) none in
          let up_to = c.in_ok-tables.ensures.in_time (last_moment items) (subst (AllByRecursion (λ (t : Txn). t.moment ≤ last_moment items)) (sym c.deref.ensures.value) all) in
          record {
            tells = record {
              count = omega (arith, many, c.sort_by_moment.ensures.as_many, c.len.ensures);
              last = gathered.last_is;
              tables = subst (StandsFor tables) gathered.txns_are (stands_reordered sorted file back tables stands);
              eras = gathered.eras_are;
            };
            in_time = omega (arith, up_to, gathered.last_is);
          };
    }

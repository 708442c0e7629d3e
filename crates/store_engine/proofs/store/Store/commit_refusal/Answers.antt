use Rattle.std.proofs.Common.{◌≡◌, ℕ, ◌≤◌, Bool, length, Some, None, sym, ap, ◌∙◌, arith}
use Rattle.std.proofs.lemmas.Bool.{lt-ltb, le-ltb}
use Rattle.std.proofs.lemmas.Grind.{common_steps}
use Rattle.tuple_bytes.specs.declared.item.Item.{Item}
use Rattle.tuple_bytes.specs.declared.item.Item.TheVariants as items
use Rattle.tuple_bytes.specs.declared.item.Txn.{Txn}
use Rattle.tuple_bytes.specs.Limits.{max_payload}
use Rattle.tuple_bytes.specs.Spelling.{spell_item}
use Rattle.store_engine.specs.declared.fail.StoreFail.TheVariants as fails
use Rattle.store_engine.specs.Refusals.{Tail, tail_of, next_txn, item_fault, is_full, where_true}
use Rattle.store_engine.proofs.store.Store.commit_refusal.Goals as goal

module _ (t : Tail) (is_closed : Bool) (item : Item) where
  -- an item with more bytes than a record has room for
  too_long : (length (spell_item item) ≤ max_payload → ⊥) → item_fault t is_closed item ≡ Some fails.TooLong
  too_long more =
      ap (λ (long : Bool). where_true long fails.TooLong (where_true is_closed fails.Closed (where_true (is_full t.end (length (spell_item item))) fails.StoreFull None)))
      (lt-ltb max_payload (length (spell_item item)) (omega (arith, more)))

  -- an item of so many bytes
  of_size : (bytes : ℕ) → (length (spell_item item) ≤ max_payload) × (bytes ≡ length (spell_item item)) → item_fault t is_closed item ≡ where_true is_closed fails.Closed (where_true (is_full t.end bytes) fails.StoreFull None)
  of_size bytes is =
      ap (λ (long : Bool). where_true long fails.TooLong (where_true is_closed fails.Closed (where_true (is_full t.end (length (spell_item item))) fails.StoreFull None)))
      (le-ltb max_payload (length (spell_item item)) is.0)
      ∙ ap (λ (n : ℕ). where_true is_closed fails.Closed (where_true (is_full t.end n) fails.StoreFull None)) (sym is.1)

pub room_refusal-requires : goal.room_refusal-requires
room_refusal-requires c = record { short = (let is = c.in-Some-txn_size.ensures.value 0 0 in omega (arith, is.0, is.1)) }

pub returns-in-Some-txn_size : goal.returns-in-Some-txn_size
returns-in-Some-txn_size c =
    let stand = c.args.self.now in
    let txn : Txn = next_txn (tail_of c.args.self.now) c.args.ops.now c.args.now in
    let known : item_fault (tail_of c.args.self.now) c.args.self.now.at.is_closed (items.Txn txn) ≡ c.room_refusal.result =
    of_size (tail_of stand) stand.at.is_closed (items.Txn txn) c.in-Some-txn_size.bytes (c.in-Some-txn_size.ensures.value txn.number txn.moment) ∙ sym c.room_refusal.ensures.value in
    record { value = grind (arith, common_steps, known) }

pub returns-in-None : goal.returns-in-None
returns-in-None c =
    let stand = c.args.self.now in
    let txn : Txn = next_txn (tail_of c.args.self.now) c.args.ops.now c.args.now in
    let known : item_fault (tail_of c.args.self.now) c.args.self.now.at.is_closed (items.Txn txn) ≡ Some fails.TooLong =
    too_long (tail_of stand) stand.at.is_closed (items.Txn txn) (c.in-None.ensures.value txn.number txn.moment) in
    record { value = grind (arith, common_steps, known) }

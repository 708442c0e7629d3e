-- Why an item is not stored: the first cause in order.
use Rattle.std.specs.Prelude.{◌≡◌, ℕ, ◌+◌, ◌-◌, nat_lt, nat_le, Bool, if◌then◌else◌, List, length, Option, Some, None}
use Rattle.tuple_bytes.specs.declared.header.Header.{Header}
use Rattle.tuple_bytes.specs.declared.item.Item.{Item}
use Rattle.tuple_bytes.specs.declared.item.Item.TheVariants as items
use Rattle.tuple_bytes.specs.declared.item.Txn.{Txn}
use Rattle.tuple_bytes.specs.declared.op.Op.{Op}
use Rattle.tuple_bytes.specs.Limits.{max_ops, max_payload, max_granules}
use Rattle.tuple_bytes.specs.Spelling.{spell_item, spell_frontier}
use Rattle.history_model.specs.History.{granule_of}
pub use Rattle.history_model.specs.Placing.{is_full}
use Rattle.store_engine.specs.declared.fail.StoreFail.{StoreFail}
use Rattle.store_engine.specs.declared.fail.StoreFail.TheVariants as fails
use Rattle.store_engine.specs.Opened.{Opened}

-- what decides on the next item: the header, how many transactions there are, the last moment, and the place of the
-- gate behind all items
pub record Tail : Type 0 where
  pub header : Header
  pub count : ℕ
  pub last : ℕ
  pub end : ℕ

abbrev pub tail_of : Opened → Tail
tail_of s = record { header = s.header; count = s.count; last = s.last; end = s.at.end }

-- the moment of these clock seconds, counted from the store's first second
abbrev pub moment_at : Header → ℕ → ℕ
moment_at header now = now - header.epoch

-- the clock is before the last moment, or before the store's first second
abbrev pub is_back : Tail → ℕ → Bool
is_back t now = nat_lt now (t.header.epoch + t.last)

-- there is no granule of that number
abbrev pub is_late : Tail → ℕ → Bool
is_late t now = nat_le max_granules (granule_of t.header.width (moment_at t.header now))

-- the transaction that these operations become
abbrev pub next_txn : Tail → List Op → ℕ → Txn
next_txn t ops now = record { number = t.count + 1; moment = moment_at t.header now; ops = ops }

-- this fault where its cause is there, else the others
abbrev pub where_true : Bool → StoreFail → Option StoreFail → Option StoreFail
where_true cause fail others = if cause then Some fail else others

-- no record has room for a payload of these bytes
abbrev pub is_too_long : List ℕ → Bool
is_too_long payload = nat_lt max_payload (length payload)

-- no transaction has so many operations
abbrev pub are_too_many : List Op → Bool
are_too_many ops = nat_lt max_ops (length ops)

-- why an item is not stored
abbrev pub item_fault : Tail → Bool → Item → Option StoreFail
item_fault t is_closed item =
    where_true (is_too_long (spell_item item)) fails.TooLong
    (where_true is_closed fails.Closed
    (where_true (is_full t.end (length (spell_item item))) fails.StoreFull None))

-- why operations are not committed at these clock seconds
abbrev pub commit_fault : Tail → Bool → List Op → ℕ → Option StoreFail
commit_fault t is_closed ops now =
    where_true (is_back t now) (fails.ClockBack t.last)
    (where_true (is_late t now) fails.TooLate
    (where_true (are_too_many ops) fails.TooManyOps
    (item_fault t is_closed (items.Txn (next_txn t ops now)))))

-- why no Frontier is stored; where the last moment is not before it, none is asked for
abbrev pub frontier_fault : Tail → Bool → ℕ → Option StoreFail
frontier_fault t is_closed moment =
    if nat_le moment t.last then None
    else where_true is_closed fails.Closed (where_true (is_full t.end (length (spell_frontier moment))) fails.StoreFull None)

-- there is no header, or one of another id
abbrev pub IsOfAnother : ℕ → Option Header → Type 0
IsOfAnother id None = Unit {0}
IsOfAnother id (Some header) = header.id ≡ id → ⊥

-- there is a header of this id
abbrev pub IsOfThis : ℕ → Option Header → Type 0
IsOfThis id None = ⊥
IsOfThis id (Some header) = header.id ≡ id

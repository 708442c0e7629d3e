-- The record of an item is appended, and then the item is added to what is known of the file.
use Rattle.std.specs.Prelude.{◌≡◌, ℕ, ◌<◌, ◌≤◌, Bool, List, ◌++◌, ◌∷◌, [], Option, None, Result, Ok, Err}
use Rattle.disk_words.specs.Disk.{State}
use Rattle.tuple_bytes.specs.declared.item.Item.{Item}
use Rattle.tuple_bytes.specs.declared.item.Item.TheVariants as items
use Rattle.tuple_bytes.specs.declared.item.Txn.{Txn}
use Rattle.tuple_bytes.specs.Spelling.{spell_item}
use Rattle.tuple_bytes.specs.Limits.{max_granules}
use Rattle.history_model.specs.History.{granule_of}
use Rattle.segment_file.specs.Append.{Standing, behind}
use Rattle.segment_file.specs.Appended.{closed}
use Rattle.store_engine.specs.declared.fail.StoreFail.{StoreFail}
use Rattle.store_engine.specs.declared.fail.StoreFail.TheVariants as fails
use Rattle.store_engine.specs.Opened.{Opened, Knows}
use Rattle.store_engine.specs.Refusals.{where_true, is_full}
use Rattle.store_engine.specs.Commits.{Adds}

-- the store stands behind one item more, and knows of it
pub record IsBehind (item : Item) (old new : Opened) : Type 0 where
  pub header : new.header ≡ old.header
  pub at : new.at ≡ behind old.at (spell_item item)
  pub knows : (stored_items : List Item) → Knows old stored_items → Knows new (stored_items ++ item ∷ [])

-- What the append of an item's record does with the bytes of a store, where the store stands then: behind the item, or
-- anywhere where memory was wanted to know of it.
abbrev pub AddsRecord : Item → Result (Unit {0}) StoreFail → Opened → State → State → List ℕ → List ℕ → Type 0
AddsRecord item (Ok done) stand old new before after =
    ((later : Opened) → IsBehind item stand later → Adds {A = Unit {0}} item (Ok tt) stand later old new before after)
    × ((later : Opened) → Adds {A = Unit {0}} item (Err fails.NoMemory) stand later old new before after)
AddsRecord item (Err fail) stand old new before after = (later : Opened) → Adds {A = Unit {0}} item (Err fail) stand later old new before after

-- where the next record goes, of a file and of the store over it
abbrev pub stands_at : Standing → Bool → Standing
stands_at at is_closed = record at { is_closed = is_closed }

-- why a record of so many bytes is not appended
abbrev pub record_fault : Standing → ℕ → Option StoreFail
record_fault at size = where_true at.is_closed fails.Closed (where_true (is_full at.end size) fails.StoreFull None)

-- where the next record goes after an answer
abbrev pub GoesBehind : List ℕ → Result (Unit {0}) StoreFail → Standing → Standing → Type 0
GoesBehind payload (Ok done) old new = new ≡ behind old payload
GoesBehind payload (Err fails.DiskFault) old new = new ≡ closed old
GoesBehind payload (Err fails.NoMemory) old new = new ≡ closed old
GoesBehind payload (Err fails.NotAStore) old new = ⊥
GoesBehind payload (Err fails.OldFormat) old new = ⊥
GoesBehind payload (Err (fails.ClockBack last)) old new = ⊥
GoesBehind payload (Err fails.TooLate) old new = ⊥
GoesBehind payload (Err fails.TooManyOps) old new = ⊥
GoesBehind payload (Err fails.TooLong) old new = ⊥
GoesBehind payload (Err fails.StoreFull) old new = new ≡ old
GoesBehind payload (Err fails.Closed) old new = new ≡ old

-- a transaction of this moment, which isn't before the last one, and whose granule there is
pub record IsNextTxn (s : Opened) (moment : ℕ) (item : Item) : Type 0 where
  pub txn : Txn
  pub is : item ≡ items.Txn txn
  pub moment_is : txn.moment ≡ moment
  pub follows : s.last ≤ moment
  pub small : granule_of s.header.width moment < max_granules

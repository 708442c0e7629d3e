-- What an append leaves of a store, by its bytes alone: over the list of its writes, whole and cut short.
use Rattle.std.specs.Prelude.{◌≡◌, ℕ, false, List, [], ◌∷◌, ◌++◌, length}
use Rattle.disk_model.specs.Moments.{written_all, AllWithin, CutShort}
use Rattle.tuple_bytes.specs.declared.header.Header.{Header}
use Rattle.tuple_bytes.specs.declared.item.Item.{Item}
use Rattle.tuple_bytes.specs.Spelling.{spell_item}
use Rattle.history_model.specs.Stored.{IsStorable, stored}
use Rattle.txn_journal.specs.Append.{KeepsFront}
use Rattle.segment_file.specs.Append.{append_writes}
use Rattle.history_model.specs.Placing.{gate_behind}
use Rattle.store_engine.specs.Opened.{Stores, StoresOldOrNew}
use Rattle.store_engine.specs.Refusals.{is_full}
use Rattle.store_engine.specs.Appended.{standing, with_record}

-- the writes that append an item to the store that these bytes hold
abbrev pub item_writes : Item → List ℕ → List (ℕ × List ℕ)
item_writes item bytes = append_writes (standing (stored bytes).end bytes) (spell_item item)

-- the store that these bytes hold takes the item: a record can hold it, and there is room behind all others
pub record Takes (bytes : List ℕ) (item : Item) : Type 0 where
  pub storable : IsStorable item
  pub room : is_full (stored bytes).end (length (spell_item item)) ≡ false

-- Cut short anywhere, the writes leave the header and the items, or these and the new one.
abbrev pub CutAppendLeavesOldOrNew : Type 0
CutAppendLeavesOldOrNew = (header : Header) (items : List Item) (item : Item) (x c : List ℕ) → Stores header items x → Takes x item
    → CutShort (item_writes item x) x c
    → StoresOldOrNew header items item c

-- All of them leave these and the new one, and the next gate behind its record.
abbrev pub AppendAddsItem : Type 0
AppendAddsItem = (header : Header) (items : List Item) (item : Item) (x : List ℕ) → Stores header items x → Takes x item
    → Stores header (items ++ item ∷ []) (written_all (item_writes item x) x)
    × ((stored (written_all (item_writes item x) x)).end ≡ gate_behind (stored x).end (length (spell_item item)))

-- Each begins within the file.
abbrev pub AppendIsWithin : Type 0
AppendIsWithin = (header : Header) (items : List Item) (item : Item) (x : List ℕ) → Stores header items x → Takes x item
    → AllWithin (item_writes item x) x

-- Cut short anywhere, they leave the bytes before the gate.
abbrev pub CutAppendLeavesFront : Type 0
CutAppendLeavesFront = (header : Header) (items : List Item) (item : Item) (x c : List ℕ) → Stores header items x
    → CutShort (item_writes item x) x c
    → KeepsFront (stored x).end x c

-- All of them put the record where it goes, and change nothing but what is said there.
abbrev pub AppendPutsRecord : Type 0
AppendPutsRecord = (header : Header) (items : List Item) (item : Item) (x : List ℕ) → Stores header items x
    → written_all (item_writes item x) x ≡ with_record (stored x).end item x

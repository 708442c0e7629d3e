-- An item is stored behind all others.
use Rattle.std.specs.Prelude.{◌≡◌, ◌⊎◌, ℕ, ◌+◌, nat_le, if◌then◌else◌, List, ◌++◌, ◌∷◌, [], Result, Ok, Err, OnOk}
use Rattle.std.specs.Option.{option_map}
use Rattle.disk_words.specs.declared.DiskFail.TheVariants.{Failed, NoMemory}
use Rattle.disk_words.specs.Disk.{Call, State, Only, Unchanged}
use Rattle.disk_model.specs.Moments.{EveryImage, MakesCalls}
use Rattle.tuple_bytes.specs.declared.item.Item.{Item}
use Rattle.tuple_bytes.specs.declared.item.Item.TheVariants as items
use Rattle.tuple_bytes.specs.declared.item.Txn.{Txn}
use Rattle.tuple_bytes.specs.Spelling.{spell_txn, spell_item}
use Rattle.digest_model.specs.Layout.{with_item as eras_with}
use Rattle.tt_table.specs.Versions.{applied}
use Rattle.tt_table.specs.Tables.{TablesVersions}
use Rattle.txn_journal.specs.Append.{KeepsFront}
use Rattle.segment_file.specs.Append.{behind, append_calls}
use Rattle.segment_file.specs.Appended.{closed}
use Rattle.segment_file.specs.Places.{KeepsPlaces}
use Rattle.chain_state.specs.Chained.{with_chained, with_turned}
use Rattle.store_engine.specs.declared.fail.StoreFail.{StoreFail}
use Rattle.store_engine.specs.declared.fail.StoreFail.TheVariants as fails
use Rattle.store_engine.specs.Opened.{Opened, IsOpenOn, StoresOldOrNew}
pub use Rattle.store_engine.specs.Opened.{with_frontier}

-- ---- the store

-- the store with a transaction more
abbrev pub with_txn : Opened → Txn → Opened
with_txn s t = record s {
  count = s.count + 1;
  last = t.moment;
  tables = applied t.moment t.ops s.tables;
  chains = option_map (with_chained t) s.chains;
  at = behind s.at (spell_txn t);
}

-- with a policy more, which may be the next era
abbrev pub with_policy : Opened → Item → Opened
with_policy s policy = record s {
  eras = eras_with s.eras policy;
  chains = option_map (with_turned policy) s.chains;
  at = behind s.at (spell_item policy);
}

-- with any item
abbrev pub with_item : Opened → Item → Opened
with_item s (items.Txn t) = with_txn s t
with_item s (items.Frontier moment) = with_frontier s moment
with_item s (items.Policy tile granule k algs) = with_policy s (items.Policy tile granule k algs)

-- it has one where its last moment is before that
abbrev pub frontier_at : Opened → ℕ → Opened
frontier_at s moment = if nat_le moment s.last then s else with_frontier s moment

-- closed until the file is opened anew
abbrev pub shut : Opened → Opened
shut s = record s { at = closed s.at }

-- want of memory came before the item was stored, or behind it: then some of its operations may be missing in the tables
abbrev pub IsCutShort : Opened → Opened → Opened → Type 0
IsCutShort old with_item new = (new ≡ shut old) ⊎ ((tables : TablesVersions) × (new ≡ shut (record with_item { tables = tables })))

-- where the store stands after an answer, and with_item after Ok
abbrev pub StandsAfter : {A : Type 0} → Result A StoreFail → Opened → Opened → Opened → Type 0
StandsAfter (Ok done) old with_item new = new ≡ with_item
StandsAfter (Err fails.DiskFault) old with_item new = new ≡ shut old
StandsAfter (Err fails.NoMemory) old with_item new = IsCutShort old with_item new
StandsAfter (Err fails.NotAStore) old with_item new = ⊥
StandsAfter (Err fails.OldFormat) old with_item new = ⊥
StandsAfter (Err (fails.ClockBack last)) old with_item new = new ≡ old
StandsAfter (Err fails.TooLate) old with_item new = new ≡ old
StandsAfter (Err fails.TooManyOps) old with_item new = new ≡ old
StandsAfter (Err fails.TooLong) old with_item new = new ≡ old
StandsAfter (Err fails.StoreFull) old with_item new = new ≡ old
StandsAfter (Err fails.Closed) old with_item new = new ≡ old

-- ---- the disk

-- The calls were made in order, and none after one that failed; after a refusal, none at all.
abbrev pub MakesOf : {A : Type 0} → List Call → Result A StoreFail → State → State → Type 0
MakesOf calls (Ok done) old new = MakesCalls calls (Ok tt) old new
MakesOf calls (Err fails.DiskFault) old new = MakesCalls calls (Err Failed) old new
MakesOf calls (Err fails.NoMemory) old new = MakesCalls calls (Ok tt) old new ⊎ MakesCalls calls (Err NoMemory) old new
MakesOf calls (Err fails.NotAStore) old new = ⊥
MakesOf calls (Err fails.OldFormat) old new = ⊥
MakesOf calls (Err (fails.ClockBack last)) old new = Unchanged old new
MakesOf calls (Err fails.TooLate) old new = Unchanged old new
MakesOf calls (Err fails.TooManyOps) old new = Unchanged old new
MakesOf calls (Err fails.TooLong) old new = Unchanged old new
MakesOf calls (Err fails.StoreFull) old new = Unchanged old new
MakesOf calls (Err fails.Closed) old new = Unchanged old new

-- what storing an item does with the bytes of a store; stand and new_stand are the open store before and after
pub record Adds {A : Type 0} (item : Item) (result : Result A StoreFail) (stand new_stand : Opened) (old new : State) (before after : List ℕ) : Type 0 where
  pub added : OnOk result ((stored_items : List Item) → IsOpenOn stand stored_items before → IsOpenOn new_stand (stored_items ++ item ∷ []) after)
  pub durable : OnOk result (Only after new)
  pub places : OnOk result ((stored_items : List Item) → IsOpenOn stand stored_items before → KeepsPlaces before after)
  pub images : (stored_items : List Item) → IsOpenOn stand stored_items before → Only before old → EveryImage old new (StoresOldOrNew stand.header stored_items item)
  -- whatever was answered
  pub kept : (stored_items : List Item) → IsOpenOn stand stored_items before → Only before old → StoresOldOrNew stand.header stored_items item after
  pub front : (stored_items : List Item) → IsOpenOn stand stored_items before → Only before old → KeepsFront stand.at.end before after
  pub trace : MakesOf (append_calls stand.at (spell_item item)) result old new

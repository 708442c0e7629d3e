-- What an append leaves of a store, by its bytes alone.
use Rattle.std.proofs.Common.{◌≡◌, ℕ, ◌+◌, ◌<◌, false, List, [], ◌∷◌, ◌++◌, length, Some, refl, subst, arith}
use Rattle.std.proofs.lemmas.Bool.Decides.{nat_tests}
use Rattle.disk_model.specs.Moments.{written_all, AllWithin, CutShort}
use Rattle.byte_grammar.specs.Gated.{FitsRecord}
use Rattle.tuple_bytes.specs.declared.header.Header.{Header}
use Rattle.tuple_bytes.specs.declared.item.Item.{Item}
use Rattle.tuple_bytes.specs.Items.{item_of}
use Rattle.tuple_bytes.specs.Spelling.{spell_item}
use Rattle.tuple_bytes.proofs.ItemLaws.{whole_again, spelled_some}
use Rattle.history_model.specs.Stored.{store_shape, max_file, stored}
use Rattle.txn_journal.specs.Append.{KeepsFront}
use Rattle.segment_file.specs.Appended as segments
use Rattle.segment_file.specs.Append.{Standing}
use Rattle.segment_file.specs.Appended.{StandsIn}
use Rattle.history_model.specs.Placing.{gate_behind}
use Rattle.segment_file.proofs.Appended.{gate_within, front_at, within_at, each_at, added_at}
use Rattle.store_engine.specs.Opened.{Stores, StoresOldOrNew}
use Rattle.store_engine.specs.Refusals.{is_full}
use Rattle.store_engine.specs.Appended.{standing, with_record}
use Rattle.store_engine.specs.Leaving.{item_writes, Takes, CutAppendLeavesOldOrNew, AppendAddsItem, AppendIsWithin, CutAppendLeavesFront, AppendPutsRecord}
use Rattle.store_engine.proofs.StoredFiles.{stores_new, stores_either}
use Rattle.store_engine.proofs.Placed.{all_placed}

-- where there is room, the next gate stays below the limit
pub has_room : (end size : ℕ) → is_full end size ≡ false → end + 5 + size < max_file
has_room end size room = grind (arith, nat_tests, room)

module _ (h : Header) (items : List Item) (item : Item) (x : List ℕ) (stores : Stores h items x) where
  abbrev payload : List ℕ
  payload = spell_item item

  abbrev at : Standing
  at = standing (stored x).end x

  stands : StandsIn (standing (stored x).end x) x
  stands = record { format = stores.format; end = refl; length_is = refl; gate = refl }

  -- the gate behind all items stands within the bytes
  pub gate_inside : (stored x).end < length x
  gate_inside = gate_within at x stands

  front : (c : List ℕ) → CutShort (item_writes item x) x c → KeepsFront (stored x).end x c
  front c cut = front_at at payload x stands c cut

  module _ (takes : Takes x item) where
    fits : FitsRecord store_shape (spell_item item)
    fits = record { accepted = spelled_some payload item (takes.storable.fits, refl); short = takes.storable.short }

    room : (stored x).end + 5 + length (spell_item item) < max_file
    room = has_room (stored x).end (length payload) takes.room

    spelled : item_of (spell_item item) ≡ Some item
    spelled = whole_again payload item (takes.storable.fits, refl)

    old_or_new : (c : List ℕ) → CutShort (item_writes item x) x c → StoresOldOrNew h items item c
    old_or_new c cut = stores_either h x items stores payload item spelled c (each_at at payload fits room x stands c cut)

    abbrev all : List ℕ
    all = written_all (item_writes item x) x

    added : segments.StoresNew (standing (stored x).end x) x (spell_item item) (written_all (item_writes item x) x)
    added = added_at at payload fits room x stands all refl

    adds : Stores h (items ++ item ∷ []) (written_all (item_writes item x) x) × ((stored (written_all (item_writes item x) x)).end ≡ gate_behind (stored x).end (length (spell_item item)))
    adds = (stores_new h x items stores payload item spelled all at added, added.stands.end)

    is_within : AllWithin (item_writes item x) x
    is_within = within_at at payload fits room x stands

pub cut_append_leaves : CutAppendLeavesOldOrNew
cut_append_leaves h items item x c stores takes cut = old_or_new h items item x stores takes c cut

pub append_adds : AppendAddsItem
append_adds h items item x stores takes = adds h items item x stores takes

pub append_within : AppendIsWithin
append_within h items item x stores takes = is_within h items item x stores takes

pub cut_append_front : CutAppendLeavesFront
cut_append_front h items item x c stores cut = front h items item x stores c cut

pub append_puts : AppendPutsRecord
append_puts h items item x stores = all_placed (stored x).end (spell_item item) x (gate_inside h items item x stores)

-- the bytes with the record store one item more
pub stores_record : (h : Header) (items : List Item) (item : Item) (x : List ℕ) → Stores h items x → Takes x item → Stores h (items ++ item ∷ []) (with_record (stored x).end item x)
stores_record h items item x stores takes = subst (Stores h (items ++ item ∷ [])) (append_puts h items item x stores) (adds h items item x stores takes).0

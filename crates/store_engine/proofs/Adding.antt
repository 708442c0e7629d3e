-- What an append does to a store, by its items.
use Rattle.std.proofs.Common.{◌≡◌, inl, inr, ℕ, Bool, List, [], ◌∷◌, ◌++◌, Some, Result, Ok, Err, refl, sym, ap, subst, ◌∙◌}
use Rattle.outside_words.specs.Told.{WhereTold}
use Rattle.outside_words.proofs.Told.{told_map, told_same}
use Rattle.disk_words.specs.Disk.{State, Only, Unchanged, Call, turn}
use Rattle.disk_model.specs.Moments.{EveryImage, calls_of}
use Rattle.disk_model.proofs.Moments.{started, weaker}
use Rattle.tuple_bytes.specs.declared.header.Header.{Header}
use Rattle.tuple_bytes.specs.declared.item.Item.{Item}
use Rattle.tuple_bytes.specs.Items.{item_of}
use Rattle.tuple_bytes.specs.Spelling.{spell_item, Spells}
use Rattle.tuple_bytes.proofs.ItemLaws.{whole_again}
use Rattle.txn_journal.specs.Append.{KeepsFront}
use Rattle.segment_file.specs.declared.fail.SegmentFail.{SegmentFail}
use Rattle.segment_file.specs.declared.fail.SegmentFail.TheVariants as segment_fails
use Rattle.segment_file.specs.Appended as segments
use Rattle.segment_file.specs.Append.{Standing, append_calls, behind}
use Rattle.segment_file.specs.Appended.{StandsIn, Appends}
use Rattle.segment_file.specs.Writes.{segment_writes}
use Rattle.store_engine.specs.declared.fail.StoreFail.{StoreFail}
use Rattle.store_engine.specs.declared.fail.StoreFail.TheVariants as fails
use Rattle.segment_file.proofs.Appended.{no_memory_first}
use Rattle.tuple_bytes.specs.declared.writing.EncodeFail.{EncodeFail}
use Rattle.tuple_bytes.specs.declared.writing.EncodeFail.TheVariants as encoding
use Rattle.store_engine.specs.Fail.{fail_of_file, fail_of_encoding}
use Rattle.store_engine.specs.Opened.{Opened, Stores, StoresOldOrNew, IsOpenOn}
use Rattle.store_engine.specs.Commits.{MakesOf, Adds}
use Rattle.store_engine.specs.Adding.{IsBehind, AddsRecord, stands_at}
use Rattle.store_engine.proofs.StoredFiles.{IsAlike, alike_stands, alike_behind, stands_in, stores_new, stores_either}

alike_back : (a b : Standing) → IsAlike a b → IsAlike b a
alike_back a b alike = record { end = sym alike.end; length_is = sym alike.length_is; gate = sym alike.gate }

-- the calls are those of the item's spelling
calls_same : (a b : Standing) (payload text : List ℕ) → IsAlike a b → payload ≡ text → append_calls a payload ≡ append_calls b text
calls_same a b payload text alike is =
    ap (λ (e : ℕ). calls_of (segment_writes a.gate_is_open a.length e payload)) alike.end
    ∙ ap (λ (n : ℕ). calls_of (segment_writes a.gate_is_open n b.end payload)) alike.length_is
    ∙ ap (λ (g : Bool). calls_of (segment_writes g b.length b.end payload)) alike.gate
    ∙ ap (λ (p : List ℕ). append_calls b p) is

pub unchanged_same : (s : State) → Unchanged s s
unchanged_same s = record { reads = refl; trace = refl; images = λ c. ((λ i. i), λ i. i); since = λ t c. ((λ i. i), λ i. i) }

-- the calls of an append that failed; a refusal left the disk as it was
pub makes_failed : (A : Type 0) (f : SegmentFail) (payload : List ℕ) (at next : Standing) (calls : List Call) (old new : State) → segments.StandsAfter payload (Err f) at next → (next ≡ at → Unchanged old new)
    → segments.MakesOf calls (Err f) old new → MakesOf {A = A} calls (Err (fail_of_file f)) old new
makes_failed A segment_fails.DiskFault payload at next calls old new moves same made = made
makes_failed A segment_fails.NoMemory payload at next calls old new moves same made = inr made
makes_failed A segment_fails.StoreFull payload at next calls old new moves same made = same moves
makes_failed A segment_fails.Closed payload at next calls old new moves same made = same moves
makes_failed A segment_fails.NotAStore payload at next calls old new moves same made = absurd moves
makes_failed A segment_fails.OldFormat payload at next calls old new moves same made = absurd moves
makes_failed A segment_fails.AlreadyThere payload at next calls old new moves same made = absurd moves

module _ (item : Item) (payload : List ℕ) (is : payload ≡ spell_item item) (spelled : item_of payload ≡ Some item) (at : Standing) (old new : State) (stand : Opened) (alike : IsAlike at stand.at) (before after : List ℕ) where
  calls_are : append_calls at payload ≡ append_calls stand.at (spell_item item)
  calls_are = calls_same at stand.at payload (spell_item item) alike is

  stands : (items : List Item) → IsOpenOn stand items before → StandsIn at before
  stands items open_on = alike_stands stand.at at before (alike_back at stand.at alike) (stands_in stand items before open_on)

  module _ (r : Result (Unit {0}) SegmentFail) (appends : Appends at payload r old new before after) where
    images_of : (items : List Item) → IsOpenOn stand items before → Only before old → EveryImage old new (StoresOldOrNew stand.header items item)
    images_of items open_on only = weaker (appends.images (stands items open_on) only) (stores_either stand.header before items open_on.stores payload item spelled)

    kept_of : (items : List Item) → IsOpenOn stand items before → Only before old → StoresOldOrNew stand.header items item after
    kept_of items open_on only = stores_either stand.header before items open_on.stores payload item spelled after (appends.kept (stands items open_on) only)

    front_of : (items : List Item) → IsOpenOn stand items before → Only before old → KeepsFront stand.at.end before after
    front_of items open_on only = subst (λ (e : ℕ). KeepsFront e before after) alike.end (appends.front (stands items open_on) only)

    -- nothing was stored, or it is not known
    pub adds_failed : (new_stand : Opened) (e : StoreFail) → MakesOf {A = Unit {0}} (append_calls at payload) (Err e) old new → Adds {A = Unit {0}} item (Err e) stand new_stand old new before after
    adds_failed new_stand e made = record {
      added = tt;
      durable = tt;
      places = tt;
      images = images_of;
      kept = kept_of;
      front = front_of;
      trace = subst (λ (calls : List Call). MakesOf {A = Unit {0}} calls (Err e) old new) calls_are made;
    }

  module _ (appends : Appends at payload (Ok tt) old new before after) where
    opens : (new_stand : Opened) → IsBehind item stand new_stand → (items : List Item) → IsOpenOn stand items before → IsOpenOn new_stand (items ++ item ∷ []) after
    opens new_stand behind_item items open_on =
        let now = appends.added (stands items open_on) in
        let same : StandsIn (behind stand.at payload) after = alike_stands (behind at payload) (behind stand.at payload) after (alike_behind at stand.at payload alike) now.stands in
        let there : StandsIn new_stand.at after = subst (λ (s : Standing). StandsIn s after) (sym behind_item.at) (subst (λ (p : List ℕ). StandsIn (behind stand.at p) after) is same) in
        record {
          stores = subst (λ (h : Header). Stores h (items ++ item ∷ []) after) (sym behind_item.header) (stores_new stand.header before items open_on.stores payload item spelled after at now);
          end = there.end;
          length_is = there.length_is;
          gate = there.gate;
          knows = behind_item.knows items open_on.knows;
        }

    pub adds_done : (new_stand : Opened) → IsBehind item stand new_stand → Adds {A = Unit {0}} item (Ok tt) stand new_stand old new before after
    adds_done new_stand behind_item = record {
      added = opens new_stand behind_item;
      durable = appends.durable;
      places = λ items open_on. appends.places (stands items open_on);
      images = images_of (Ok tt) appends;
      kept = kept_of (Ok tt) appends;
      front = front_of (Ok tt) appends;
      trace = subst (λ (calls : List Call). MakesOf {A = Unit {0}} calls (Ok tt) old new) calls_are appends.trace;
    }

-- ---- whatever the item and the store over it are

-- what is said of any item with this spelling, and of any store that stands there
abbrev pub AddsAny : List ℕ → Standing → Result (Unit {0}) StoreFail → State → State → List ℕ → List ℕ → Type 0
AddsAny payload at result old new before after = (item : Item) (stand : Opened) → Spells item payload → stand.at ≡ at → AddsRecord item result stand old new before after

alike_to : (at : Standing) (is_closed : Bool) (s : Standing) → s ≡ stands_at at is_closed → IsAlike at s
alike_to at is_closed s is = record {
  end = sym (ap (λ (x : Standing). x.end) is);
  length_is = sym (ap (λ (x : Standing). x.length) is);
  gate = sym (ap (λ (x : Standing). x.gate_is_open) is);
}

module _ (payload : List ℕ) (at : Standing) (is_closed : Bool) (old new : State) where
  -- all of it was appended
  pub record_done : WhereTold old.reads new.reads (Appends at payload (Ok tt) old new) → WhereTold old.reads new.reads (AddsAny payload (stands_at at is_closed) (Ok tt) old new)
  record_done told = told_map old.reads new.reads (Appends at payload (Ok tt) old new) (AddsAny payload (stands_at at is_closed) (Ok tt) old new) told (λ before after appends item stand spells at_is.
      let spelled = whole_again payload item spells in
      let alike = alike_to at is_closed stand.at at_is in (
        λ later behind_item. adds_done item payload spells.1 spelled at old new stand alike before after appends later behind_item,
        λ later. adds_failed item payload spells.1 spelled at old new stand alike before after (Ok tt) appends later fails.NoMemory (inl appends.trace),
      ))

  -- it failed
  pub record_failed : (next : Standing) (f : SegmentFail) → segments.StandsAfter payload (Err f) at next → (next ≡ at → Unchanged old new) → WhereTold old.reads new.reads (Appends at payload (Err f) old new)
      → WhereTold old.reads new.reads (AddsAny payload (stands_at at is_closed) (Err (fail_of_file f)) old new)
  record_failed next f moves same told = told_map old.reads new.reads (Appends at payload (Err f) old new) (AddsAny payload (stands_at at is_closed) (Err (fail_of_file f)) old new) told (λ before after appends item stand spells at_is later.
      adds_failed item payload spells.1 (whole_again payload item spells) at old new stand (alike_to at is_closed stand.at at_is) before after (Err f) appends later (fail_of_file f)
      (makes_failed (Unit {0}) f payload at next (append_calls at payload) old new moves same appends.trace))

-- nothing was done, the store being closed
pub record_refused : (payload : List ℕ) (at : Standing) (s : State) → ((c : List ℕ) → s.was_image (turn s) c → s.is_image c) → WhereTold s.reads s.reads (AddsAny payload at (Err fails.Closed) s s)
record_refused payload at s only_now = told_same s.reads s.reads (AddsAny payload at (Err fails.Closed) s s) refl (λ bytes item stand spells at_is later. record {
  added = tt;
  durable = tt;
  places = tt;
  images = λ items open_on only. started s (StoresOldOrNew stand.header items item) only_now (λ c now. inl (subst (Stores stand.header items) (sym (only c now)) open_on.stores));
  kept = λ items open_on only. inl open_on.stores;
  front = λ items open_on only. refl;
  trace = unchanged_same s;
})

-- ---- of an item and a store

module _ (item : Item) (payload : List ℕ) (spells : Spells item payload) (at : Standing) (old new : State) (stand later : Opened) (stands : stand.at ≡ at) where
  pub told_failed : (fail : StoreFail) → WhereTold old.reads new.reads (AddsAny payload at (Err fail) old new) → WhereTold old.reads new.reads (Adds {A = Unit {0}} item (Err fail) stand later old new)
  told_failed fail told = told_map old.reads new.reads (AddsAny payload at (Err fail) old new) (Adds {A = Unit {0}} item (Err fail) stand later old new) told (λ before after any. any item stand spells stands later)

  pub told_done : IsBehind item stand later → WhereTold old.reads new.reads (AddsAny payload at (Ok tt) old new) → WhereTold old.reads new.reads (Adds {A = Unit {0}} item (Ok tt) stand later old new)
  told_done behind_item told = told_map old.reads new.reads (AddsAny payload at (Ok tt) old new) (Adds {A = Unit {0}} item (Ok tt) stand later old new) told (λ before after any. (any item stand spells stands).0 later behind_item)

  -- memory was wanted to know of it
  pub told_unknown : WhereTold old.reads new.reads (AddsAny payload at (Ok tt) old new) → WhereTold old.reads new.reads (Adds {A = Unit {0}} item (Err fails.NoMemory) stand later old new)
  told_unknown told = told_map old.reads new.reads (AddsAny payload at (Ok tt) old new) (Adds {A = Unit {0}} item (Err fails.NoMemory) stand later old new) told (λ before after any. (any item stand spells stands).1 later)

-- ---- nothing was appended

module _ (item : Item) (stand later : Opened) (s : State) (only_now : (c : List ℕ) → s.was_image (turn s) c → s.is_image c) where
  told_nothing : (fail : StoreFail) → MakesOf {A = Unit {0}} (append_calls stand.at (spell_item item)) (Err fail) s s → WhereTold s.reads s.reads (Adds {A = Unit {0}} item (Err fail) stand later s s)
  told_nothing fail made = told_same s.reads s.reads (Adds {A = Unit {0}} item (Err fail) stand later s s) refl (λ bytes. record {
    added = tt;
    durable = tt;
    places = tt;
    images = λ items open_on only. started s (StoresOldOrNew stand.header items item) only_now (λ c now. inl (subst (Stores stand.header items) (sym (only c now)) open_on.stores));
    kept = λ items open_on only. inl open_on.stores;
    front = λ items open_on only. refl;
    trace = made;
  })

  -- memory was wanted before the record
  pub told_wanting : WhereTold s.reads s.reads (Adds {A = Unit {0}} item (Err fails.NoMemory) stand later s s)
  told_wanting = told_nothing fails.NoMemory (inr (no_memory_first stand.at (spell_item item) s))

  -- it has no spelling
  pub told_unspelled : (fail : EncodeFail) → WhereTold s.reads s.reads (Adds {A = Unit {0}} item (Err (fail_of_encoding fail)) stand later s s)
  told_unspelled encoding.NoMemory = told_wanting
  told_unspelled encoding.TooManyOps = told_nothing fails.TooManyOps (unchanged_same s)
  told_unspelled encoding.TooLong = told_nothing fails.TooLong (unchanged_same s)

-- What a notarization files over a timeline, stopped or not.
use Rattle.std.proofs.Common.{◌≡◌, ◌⊎◌, inl, inr, ℕ, zero, suc, ◌+◌, ◌-◌, ◌^◌, ◌<◌, ◌≤◌, Bool, true, false, List, [], ◌∷◌, ◌++◌, length, map, filter, take, Option, Some, None, IfSome, Ok, refl, sym, ap, subst, ◌∙◌, arith, length-take, length-take-le}
use Rattle.std.specs.Prelude.{nat_le, nat_lt, ◌&&◌, if◌then◌else◌}
use Rattle.std.specs.List.{All, range_with_len}
use Rattle.std.specs.Option.{option_map}
use Rattle.std.proofs.lemmas.Bool.{cases_eq, eq-eqb, ne_eqb}
use Rattle.std.proofs.lemmas.Bool.Decides.{nat_tests}
use Rattle.std.proofs.lemmas.Nat.{mul-le}
use Rattle.std.proofs.lemmas.Option.{same_Some}
use Rattle.std.proofs.lemmas.List.{append-nil, drop_at, take_all}
use Rattle.std.proofs.lemmas.List.FromFn.{take-map-range_with_len, length-map-range_with_len}
use Rattle.std.proofs.lemmas.List.Elements.{All-nil, All-cons, filter_map-append}
use Rattle.std.proofs.lemmas.List.Sums.{fold-append}
use Rattle.byte_grammar.specs.Reading.{IsBytes}
use Rattle.disk_words.specs.Disk as disks
use Rattle.disk_words.specs.Record.{image_of}
use Rattle.disk_model.specs.Moments.{is_done}
use Rattle.outside_words.specs.Runs.{after_calls}
use Rattle.tuple_bytes.specs.declared.header.Header.{Header}
use Rattle.tuple_bytes.specs.declared.item.Item.{Item}
use Rattle.tuple_bytes.specs.declared.item.Item.TheVariants as items
use Rattle.tuple_bytes.specs.Spelling.{spell_frontier, FitsHeader}
use Rattle.history_model.specs.Stored.{stored}
use Rattle.history_model.specs.History.{History, history, rows, txns, txn_in, is_in_granule}
use Rattle.history_model.proofs.Stores.{stored_history}
use Rattle.digest_model.specs.Layout.{Layout, layout, policy_of, first_era, with_item, first_granule, max_granules, SameTiles}
use Rattle.digest_model.specs.Digests.{cum}
use Rattle.digest_model.proofs.Follows.{follow}
use Rattle.digest_model.proofs.EraLaws.{same_layout, same_tiles}
use Rattle.notary_link.specs.declared.answer.Answer.{Answer}
use Rattle.notary_link.specs.declared.name.Name.TheVariants as names
use Rattle.notary_link.specs.declared.seal.Seal.{Seal}
use Rattle.notary_link.specs.Batches.{Batch, answer}
use Rattle.notary_link.specs.Notary.{Call, Lists, batch_of}
use Rattle.notary_link.specs.Filing.{filings, fitting, room_in}
use Rattle.notary_link.proofs.Fitting.{fitting_few}
use Rattle.audit_model.specs.Names.{batch, digest}
use Rattle.audit_model.specs.Notary.{answers, header_answer}
use Rattle.audit_model.specs.Altered.{history_in}
use Rattle.audit_model.proofs.Adding.{frontier_same}
use Rattle.store_engine.specs.Opened.{Stores}
use Rattle.store_engine.specs.Refusals.{Tail, is_back, is_late, is_full}
use Rattle.stmt_text.specs.declared.stmt.Stmt.TheVariants as stmts
use Rattle.stmt_text.specs.declared.line.Line.{Line}
use Rattle.stmt_text.specs.declared.line.Line.TheVariants as lines
use Rattle.statement_core.specs.Database as statements
use Rattle.validator.specs.declared.fail.AuditFail.{AuditFail}
use Rattle.validator.specs.declared.fail.AuditFail.TheVariants as fails
use Rattle.policy_eras.specs.Policy.{first_past}
use Rattle.validator.specs.Tiles.{tiles_at, end_of}
use Rattle.validator.specs.Notarizing.{Heard, heard_of, next_batches, frontier_for, else_cause, early_fault, fault_by, chain_fault, filed_fault, room_fault, notarize_fault}
use Rattle.validator.specs.Reaching.{with_frontier_for}
use Rattle.validator.proofs.Growing.{ended_within}
use Rattle.store_world.specs.Found.{Found}
use Rattle.store_world.specs.World as worlds
use Rattle.store_world.specs.World.{with_batches}
use Rattle.store_world.specs.Steps as world_steps
use Rattle.store_world.specs.Steps.{notarized, intent_in, carried_out, reached, filed}
use Rattle.store_world.specs.Finding.{MayFile}
use Rattle.timeline_model.specs.Scene.{Scene, Crash, store_in, world_with, world_of, held}
use Rattle.store_engine.specs.Appended.{standing, with_record}
use Rattle.store_engine.specs.Leaving.{Takes}
use Rattle.store_engine.proofs.Appended.{gate_inside, stores_record}
use Rattle.store_world.specs.LineCalls.{items_added, with_items, appends, notary_calls, filing_calls, unless}
use Rattle.timeline_model.specs.Lines.{Act, over_world, over_store}
use Rattle.timeline_model.specs.Timeline.{with_calls, calls_in, stopped, MayBeFound}
use Rattle.store_world.proofs.LineItems.{drop_all, carried_world}
use Rattle.timeline_model.proofs.Acts.{Acts}
use Rattle.timeline_model.proofs.Bytes.{all_calls, one_last}
use Rattle.timeline_model.proofs.Doings.{ActsOn, ActsEither, without_notary, spelled_of, StoreIs, store_is}
use Rattle.digest_model.proofs.Layouts.{ascends}
use Rattle.timeline_model.proofs.EraAnswers.{same_header_answer}

-- ---- calls of the notary, one after the other

-- batches more under an id, and nothing else
pub record HasMore (i : ℕ) (new : List Batch) (old later : Lists) : Type 0 where
  pub here : later.batches i ≡ old.batches i ++ new
  pub others : (id : ℕ) → (id ≡ i → ⊥) → later.batches id ≡ old.batches id
  pub marks : (id : ℕ) → later.marks id ≡ old.marks id

pub more_with : (i : ℕ) (new : List Batch) (lists : Lists) → HasMore i new lists (with_batches i new lists)
more_with i new lists = record {
  here = ap (λ (b : Bool). if b then lists.batches i ++ new else lists.batches i) (eq-eqb i i refl);
  others = λ id other. ap (λ (b : Bool). if b then lists.batches id ++ new else lists.batches id) (ne_eqb id i other);
  marks = λ id. refl;
}

more_none : (i : ℕ) (lists : Lists) → HasMore i [] lists lists
more_none i lists = record { here = sym (append-nil (lists.batches i)); others = λ id other. refl; marks = λ id. refl }

more_then : (i : ℕ) (b : Batch) (new : List Batch) (lists later : Lists) → HasMore i new (with_batches i (b ∷ []) lists) later → HasMore i (b ∷ new) lists later
more_then i b new lists later more =
    let first = more_with i (b ∷ []) lists in
    record {
      here = more.here ∙ ap (λ (bs : List Batch). bs ++ new) first.here ∙ append_assoc_one (lists.batches i) b new;
      others = λ id other. more.others id other ∙ first.others id other;
      marks = λ id. more.marks id ∙ first.marks id;
    }
  where
    append_assoc_one : (xs : List Batch) (x : Batch) (ys : List Batch) → (xs ++ x ∷ []) ++ ys ≡ xs ++ (x ∷ ys)
    append_assoc_one [] x ys = refl
    append_assoc_one (y ∷ xs) x ys = ap (λ (l : List Batch). y ∷ l) (append_assoc_one xs x ys)

pub calls_file : (i from j : ℕ) (bs : List Batch) (lists : Lists) → HasMore i (take j bs) lists (with_calls (take j (filings i from bs)) lists)
calls_file i from zero bs lists = more_none i lists
calls_file i from (suc j) [] lists = more_none i lists
calls_file i from (suc j) (b ∷ bs) lists = more_then i b (take j bs) lists (with_calls (take j (filings i (from + 1) bs)) (with_batches i (b ∷ []) lists)) (calls_file i (from + 1) j bs (with_batches i (b ∷ []) lists))

length-filings : (i from : ℕ) (bs : List Batch) → length (filings i from bs) ≡ length bs
length-filings i from [] = refl
length-filings i from (b ∷ bs) = omega (arith, length-filings i (from + 1) bs)

pub take_inner : {A : Type 0} (j n : ℕ) (xs : List A) → j ≤ n → take j (take n xs) ≡ take j xs
take_inner zero n xs le = refl
take_inner (suc j) zero xs le = absurd (omega (arith, le))
take_inner (suc j) (suc n) [] le = refl
take_inner {A} (suc j) (suc n) (x ∷ xs) le = ap (λ (l : List A). x ∷ l) (take_inner j n xs (omega (arith, le)))

-- ---- why nothing is filed

cause_none : (a b : Option AuditFail) → else_cause a b ≡ None → (a ≡ None) × (b ≡ None)
cause_none None b e = (refl, e)
cause_none (Some fail) b e = absurd cc

pub not_late : (t : Tail) (now : ℕ) → early_fault t false now ≡ None → is_late t now ≡ false
not_late t now free = by_back (is_back t now) refl
  where
    by_late : (b : Bool) → is_late t now ≡ b → is_back t now ≡ false → is_late t now ≡ false
    by_late false late back = late
    by_late true late back = let fault = rw (back, late) at free in absurd cc

    by_back : (b : Bool) → is_back t now ≡ b → is_late t now ≡ false
    by_back false back = by_late (is_late t now) refl back
    by_back true back = let fault = rw back at free in absurd cc

-- a Frontier that is stored has room
frontier_room : (t : Tail) (moment : ℕ) → t.last < moment → room_fault t (Some moment) ≡ None → is_full t.end (length (spell_frontier moment)) ≡ false
frontier_room t moment later free = by (is_full t.end (length (spell_frontier moment))) refl
  where
    past : nat_le moment t.last ≡ false
    past = grind (arith, nat_tests, later)

    by : (b : Bool) → is_full t.end (length (spell_frontier moment)) ≡ b → is_full t.end (length (spell_frontier moment)) ≡ false
    by false is = is
    by true is = let fault = rw (past, is) at free in absurd cc

frontier_is : (l : Layout) (t : Tail) (now count moment : ℕ) → frontier_for l t now count ≡ Some moment → (t.last < moment) × (moment ≡ end_of l t.header (tiles_at l t.header now))
frontier_is l t now count moment e = by (nat_le count (tiles_at l t.header now)) (nat_lt t.last (end_of l t.header (tiles_at l t.header now))) refl e
  where
    by : (a b : Bool) → nat_lt t.last (end_of l t.header (tiles_at l t.header now)) ≡ b → (if a && b then Some (end_of l t.header (tiles_at l t.header now)) else None) ≡ Some moment → (t.last < moment) × (moment ≡ end_of l t.header (tiles_at l t.header now))
    by true true lt same = let is = same_Some (end_of l t.header (tiles_at l t.header now)) moment same in let less : t.last < end_of l t.header (tiles_at l t.header now) = grind (arith, nat_tests, lt) in (omega (arith, less, is), sym is)
    by true false lt same = absurd cc
    by false b lt same = absurd cc

-- ---- the same rows

-- of a tile that ends here; one more than the last tile that is ever sealed is told as missing
abbrev chain_by : ℕ → Answer → ℕ → ℕ → Option AuditFail
chain_by last a end past = if nat_le end max_granules then fault_by (names.Cum last) a else Some (fails.SealMissing (names.Cum past))

same_chain : (batches : List Batch) (h s : History) (tile : ℕ) → cum h tile ≡ cum s tile → answers batches h (names.Cum tile) ≡ answers batches s (names.Cum tile)
unfolding digest
same_chain batches h s tile same = ap (answer batches (names.Cum tile)) same

-- what speaks against a history goes by its header, its eras and its transactions
fault_alike : (batches : List Batch) (h s : History) → h.header ≡ s.header → policy_of h ≡ policy_of s → ((g : ℕ) → rows h g ≡ rows s g) → filed_fault batches h ≡ filed_fault batches s
fault_alike [] h s one eras same = refl
fault_alike (first ∷ []) h s one eras same = ap (fault_by names.Header) (same_header_answer (first ∷ []) h s 0 (same_tiles h s 0 eras) one)
fault_alike (first ∷ second ∷ rest) h s one eras same =
    let last : ℕ = length rest in
    let batches : List Batch = first ∷ second ∷ rest in
    let l : layout h ≡ layout s = same_layout h s eras in
    let chain : cum h last ≡ cum s last = follow.cums h s last (same_tiles h s (last + 1) eras) (record { header = one; rows = λ g below. same g }) in
    ap (λ (a : Answer). else_cause (fault_by names.Header a) (chain_fault batches h last)) (same_header_answer batches h s (suc last) (same_tiles h s (suc last) eras) one)
    ∙ ap (λ (a : Answer). else_cause (fault_by names.Header (header_answer batches s (suc last))) (chain_by last a (first_granule (layout h) (suc last)) (first_past (layout h)))) (same_chain batches h s last chain)
    ∙ ap (λ (m : Layout). else_cause (fault_by names.Header (header_answer batches s (suc last))) (chain_by last (answers batches s (names.Cum last)) (first_granule m (suc last)) (first_past m))) l

frontier_rows : (header : Header) (is : List Item) (moment g : ℕ) → rows (history header is) g ≡ rows (history header (is ++ items.Frontier moment ∷ [])) g
unfolding rows
frontier_rows header is moment g = ap (filter (is_in_granule header g)) (sym (filter_map-append txn_in is (items.Frontier moment ∷ []) ∙ append-nil (txns is)))

-- a frontier leaves the eras
around_eras : (header : Header) (is : List Item) (need : Option ℕ) → policy_of (history header is) ≡ policy_of (history header (with_frontier_for need is))
unfolding policy_of
around_eras header is None = refl
around_eras header is (Some moment) = sym (fold-append with_item (first_era header) is (items.Frontier moment ∷ []))

around_rows : (header : Header) (is : List Item) (need : Option ℕ) (g : ℕ) → rows (history header is) g ≡ rows (history header (with_frontier_for need is)) g
around_rows header is None g = refl
around_rows header is (Some moment) g = frontier_rows header is moment g

around_batch : (header : Header) (is : List Item) (need : Option ℕ) (i : ℕ) → batch (history header is) i ≡ batch (history header (with_frontier_for need is)) i
around_batch header is None i = refl
around_batch header is (Some moment) i = sym (frontier_same header is moment i)

-- ---- the next batches

seals_made : (now : ℕ) (h s : History) → ((i : ℕ) → batch h i ≡ batch s i) → (is : List ℕ) → map (λ (b : Batch). b.seals) (map (λ index. batch_of now (batch h index)) is) ≡ map (batch s) is
seals_made now h s same [] = refl
seals_made now h s same (i ∷ is) = ap (λ (x : List Seal). x ∷ map (λ (b : Batch). b.seals) (map (λ index. batch_of now (batch h index)) is)) (same i) ∙ ap (λ (xs : List (List Seal)). batch s i ∷ xs) (seals_made now h s same is)

moments_made : (now : ℕ) (h : History) (is : List ℕ) → All (λ (b : Batch). b.moment ≡ now) (map (λ index. batch_of now (batch h index)) is)
moments_made now h [] = All-nil (λ (b : Batch). b.moment ≡ now)
moments_made now h (i ∷ is) = All-cons (λ (b : Batch). b.moment ≡ now) (batch_of now (batch h i)) (map (λ index. batch_of now (batch h index)) is) refl (moments_made now h is)

-- ---- a notarization of what is stored

unfoldable pub frontier_items : Option ℕ → List Item
frontier_items None = []
frontier_items (Some moment) = items.Frontier moment ∷ []

line : Line
line = lines.Plain stmts.Notarize

module _ (i : ℕ) (t : Scene) (found : Found) (store : statements.Database) (is : store_in i t.bytes ≡ Some store) (bytes_before : IsBytes t.bytes) where
  abbrev h : History
  h = history store.header store.items

  abbrev batches : List Batch
  batches = t.lists.batches i

  abbrev w : worlds.World
  w = world_with t i (Some store)

  abbrev now : ℕ
  now = t.clock

  abbrev tail : Tail
  tail = statements.tail_of_database store

  abbrev need : Option ℕ
  need = frontier_for (layout h) tail now found.heard.count

  abbrev next : List Batch
  next = next_batches h now found.heard.count

  abbrev fit : ℕ
  fit = fitting (room_in t.limits t.lists) next

  -- the history that the store has then
  abbrev s : History
  s = history store.header (with_frontier_for need store.items)

  pub facts : StoreIs i t.bytes store
  facts = store_is i t.bytes store is

  pub fits : FitsHeader store.header
  fits = (stored_history t.bytes store.header bytes_before facts.header).header

  -- ---- the bytes

  abbrev added : Option ℕ → List Item
  added o = items_added (Some store) (Some (reached o store))

  abbrev bytes_with : List Item → List ℕ
  bytes_with is = with_items store.end is t.bytes

  abbrev calls_with : List Item → List disks.Call
  calls_with is = appends (standing store.end t.bytes) is

  pub added_is : (o : Option ℕ) → added o ≡ frontier_items o
  unfolding frontier_items
  added_is None = drop_all store.items
  added_is (Some moment) = drop_at store.items (items.Frontier moment ∷ []) (length store.items) refl

  pub stores_before : Stores store.header store.items t.bytes
  stores_before = record { header_is = facts.header; items_are = facts.items; format = facts.format }

  module _ (free : notarize_fault tail false now store.items found.heard ≡ None) where
    pub early : early_fault tail false now ≡ None
    early = (cause_none (early_fault tail false now) (else_cause found.heard.against (room_fault tail need)) free).0

    pub later_causes : (found.heard.against ≡ None) × (room_fault tail need ≡ None)
    later_causes = cause_none found.heard.against (room_fault tail need) (cause_none (early_fault tail false now) (else_cause found.heard.against (room_fault tail need)) free).1

    pub within : first_granule (layout h) (tiles_at (layout h) store.header now) ≤ max_granules
    within = ended_within (layout h) tail now (not_late tail now early)

    -- a Frontier fits
    module _ (moment : ℕ) (need_is : need ≡ Some moment) where
      pub moment_fits : moment < 2 ^ 64
      moment_fits =
          let m = (frontier_is (layout h) tail now found.heard.count moment need_is).1 in
          let width = fits.width.1 in
          let le = mul-le (first_granule (layout h) (tiles_at (layout h) store.header now)) store.header.width 1048576 86400 within width in
          omega (arith, m, le)

      pub frontier_takes : Takes t.bytes (items.Frontier moment)
      frontier_takes = record {
        storable = record { fits = moment_fits; short = omega arith };
        room = ap (λ (e : ℕ). is_full e (length (spell_frontier moment))) facts.end
            ∙ frontier_room tail moment (frontier_is (layout h) tail now found.heard.count moment need_is).0 (ap (room_fault tail) (sym need_is) ∙ later_causes.1);
      }

      stores_frontier : Stores store.header (store.items ++ items.Frontier moment ∷ []) (bytes_with (items.Frontier moment ∷ []))
      stores_frontier =
          let more = stores_record store.header store.items (items.Frontier moment) t.bytes stores_before frontier_takes in
          subst (λ (e : ℕ). Stores store.header (store.items ++ items.Frontier moment ∷ []) (with_record e (items.Frontier moment) t.bytes)) facts.end more

      -- all its calls leave that
      pub frontier_image : (choice : ℕ) → image_of choice t.bytes (after_calls is_done (calls_with (items.Frontier moment ∷ [])) []) ≡ bytes_with (items.Frontier moment ∷ [])
      frontier_image choice =
          let inside : store.end < length t.bytes = (let r = gate_inside store.header store.items (items.Frontier moment) t.bytes stores_before in let e = facts.end in omega (arith, r, e)) in
          one_last t.bytes store.end (items.Frontier moment) inside choice

    pub stores_by : (o : Option ℕ) → need ≡ o → Stores store.header (with_frontier_for o store.items) (bytes_with (frontier_items o))
    unfolding frontier_items
    stores_by None e = stores_before
    stores_by (Some moment) e = stores_frontier moment e

    pub image_by : (o : Option ℕ) → need ≡ o → (choice : ℕ) → image_of choice t.bytes (after_calls is_done (calls_with (frontier_items o)) []) ≡ bytes_with (frontier_items o)
    unfolding frontier_items
    image_by None e choice = all_calls choice [] t.bytes
    image_by (Some moment) e choice = frontier_image moment e choice

    -- the store and its Frontier stand in the bytes
    pub held_after : (after : Scene) → after.bytes ≡ bytes_with (added need) → held after ≡ Some s
    held_after after bytes_are =
        let same : after.bytes ≡ bytes_with (frontier_items need) = bytes_are ∙ ap bytes_with (added_is need) in
        let stores = stores_by need refl in
        ap (λ (x : List ℕ). history_in (stored x)) same
        ∙ ap (λ (o : Option Header). option_map (λ (hd : Header). history hd (stored (bytes_with (frontier_items need))).items) o) stores.header_is
        ∙ ap (λ (l : List Item). Some (history store.header l)) stores.items_are

    -- ---- the batches

    pub many : length next ≡ suc (tiles_at (layout h) store.header now) - found.heard.count
    many = length-map-range_with_len (λ index. batch_of now (batch h index)) found.heard.count (suc (tiles_at (layout h) store.header now) - found.heard.count)

    -- some of them, and at least one, are filed, where what is heard is what was filed
    files_some : found.heard ≡ heard_of batches h → (id j : ℕ) (after : Scene) → id ≡ i → suc j ≤ length next → after.bytes ≡ bytes_with (added need) → after.clock ≡ t.clock → HasMore i (take (suc j) next) t.lists after.lists → ActsOn id t after
    files_some hears id j after own few bytes_are clock_same more bytes = inr (inl (record {
      store = s;
      held_is = held_after after bytes_are;
      spelled = spelled_of after.bytes s bytes (held_after after bytes_are);
      own = facts.own ∙ sym own;
      new = take (suc j) next;
      batches = subst (λ (x : ℕ). after.lists.batches x ≡ t.lists.batches x ++ take (suc j) next) (sym own) more.here;
      seals = subst (λ (x : ℕ). map (λ (b : Batch). b.seals) (take (suc j) next) ≡ map (batch s) (range_with_len (length (t.lists.batches x)) (length (take (suc j) next)))) (sym own) seals_are;
      within = subst (λ (x : ℕ). first_granule (layout s) (length (t.lists.batches x) + length (take (suc j) next) - 1) ≤ max_granules) (sym own) tiles_within;
      free = subst (λ (x : ℕ). filed_fault (t.lists.batches x) s ≡ None) (sym own) (sym (fault_alike batches h s refl (around_eras store.header store.items need) (around_rows store.header store.items need)) ∙ ap (λ (x : Heard). x.against) (sym hears) ∙ later_causes.0);
      moments = subst (λ (c : ℕ). All (λ (b : Batch). b.moment ≡ c) (take (suc j) next)) (sym clock_same) moments_are;
      marks = more.marks id;
    }))
      where
        count_is : found.heard.count ≡ length batches
        count_is = ap (λ (x : Heard). x.count) hears

        length_is : length (take (suc j) next) ≡ suc j
        length_is = length-take-le (suc j) next few

        seals_are : map (λ (b : Batch). b.seals) (take (suc j) next) ≡ map (batch s) (range_with_len (length batches) (length (take (suc j) next)))
        seals_are =
            ap (map (λ (b : Batch). b.seals)) (take-map-range_with_len (λ index. batch_of now (batch h index)) found.heard.count (suc (tiles_at (layout h) store.header now) - found.heard.count) (suc j) (omega (arith, few, many)))
            ∙ seals_made now h s (around_batch store.header store.items need) (range_with_len found.heard.count (suc j))
            ∙ ap (λ (n : ℕ). map (batch s) (range_with_len n (suc j))) count_is
            ∙ ap (λ (n : ℕ). map (batch s) (range_with_len (length batches) n)) (sym length_is)

        moments_are : All (λ (b : Batch). b.moment ≡ now) (take (suc j) next)
        moments_are = subst (All (λ (b : Batch). b.moment ≡ now)) (sym (take-map-range_with_len (λ index. batch_of now (batch h index)) found.heard.count (suc (tiles_at (layout h) store.header now) - found.heard.count) (suc j) (omega (arith, few, many))))
            (moments_made now h (range_with_len found.heard.count (suc j)))

        tiles_within : first_granule (layout s) (length batches + length (take (suc j) next) - 1) ≤ max_granules
        tiles_within =
            let last : ℕ = length batches + length (take (suc j) next) - 1 in
            let le = ascends (layout h) last (tiles_at (layout h) store.header now) (omega (arith, length_is, few, many, count_is)) in
            let begin : first_granule (layout h) last ≡ first_granule (layout s) last = ap (λ (l : Layout). first_granule l last) (same_layout h s (around_eras store.header store.items need)) in
            omega (arith, le, within, begin)

    -- of so many, under any id; where it is none, whatever the bytes are
    files_any : found.heard ≡ heard_of batches h → (id j : ℕ) (after : Scene) → j ≤ length next → (0 < j → after.bytes ≡ bytes_with (added need)) → after.clock ≡ t.clock → HasMore i (take j next) t.lists after.lists → ActsOn id t after
    files_any hears id zero after few bytes_are clock_same more bytes = by (cases_eq id i)
      where
        by : (id ≡ i) ⊎ (id ≡ i → ⊥) → Acts id t after
        by (inl own) = inl (record { batches = subst (λ (x : ℕ). after.lists.batches x ≡ t.lists.batches x) (sym own) (more.here ∙ append-nil batches); marks = more.marks id })
        by (inr other) = inl (record { batches = more.others id other; marks = more.marks id })
    files_any hears id (suc j) after few bytes_are clock_same more bytes = by (cases_eq id i)
      where
        by : (id ≡ i) ⊎ (id ≡ i → ⊥) → Acts id t after
        by (inl own) = files_some hears id j after own few (bytes_are (omega arith)) clock_same more bytes
        by (inr other) = inl (record { batches = more.others id other; marks = more.marks id })

    -- ---- the whole line, and a part of it

    abbrev new_world : worlds.World
    new_world = filed (worlds.with_store w (reached need store)) next

    module _ (hears : found.heard ≡ heard_of batches h) (id : ℕ) (step : world_steps.Step) (world_is : step.world ≡ new_world) (calls_are : notary_calls w line now found ≡ filing_calls w next) where
      abbrev a : Act
      a = over_world t w line found step

      items_same : items_added (Some store) step.world.store ≡ added need
      items_same = ap (λ (x : worlds.World). items_added (Some store) x.store) world_is

      whole : ActsOn id t a.next.scene
      whole = files_any hears id fit a.next.scene (fitting_few (room_in t.limits t.lists) next) (λ some. ap bytes_with items_same) refl
          (subst (λ (x : worlds.World). HasMore i (take fit next) t.lists x.lists) (sym world_is) (more_with i (take fit next) t.lists))

      all_calls_are : length (notary_calls w line now found) ≤ suc fit
      all_calls_are = omega (arith, ap length calls_are, length-take (suc fit) (filings i (length batches) next))

      module _ (crash : Crash) (soon : crash.after < calls_in a) where
        abbrev j : ℕ
        j = crash.after - length a.disk_calls

        j_fits : j ≤ fit
        j_fits = omega (arith, soon, all_calls_are)

        j_few : j ≤ length next
        j_few = omega (arith, j_fits, fitting_few (room_in t.limits t.lists) next)

        taken_are : take j a.notary_calls ≡ take j (filings i (length batches) next)
        taken_are = ap (take j) calls_are ∙ take_inner j (suc fit) (filings i (length batches) next) (omega (arith, j_fits))

        bytes_are : 0 < j → (stopped t crash a).bytes ≡ bytes_with (added need)
        bytes_are some =
            let all : take crash.after a.disk_calls ≡ a.disk_calls = take_all crash.after a.disk_calls (omega (arith, some)) in
            ap (λ (calls : List disks.Call). image_of crash.choice t.bytes (after_calls is_done calls [])) (all ∙ ap calls_with (items_same ∙ added_is need))
            ∙ image_by need refl crash.choice ∙ ap bytes_with (sym (added_is need))

        in_part : ActsOn id t (stopped t crash a)
        in_part = files_any hears id j (stopped t crash a) j_few bytes_are refl
            (subst (λ (calls : List Call). HasMore i (take j next) t.lists (with_calls calls t.lists)) (sym taken_are) (calls_file i (length batches) j next t.lists))

      files_either : ActsEither id t a
      files_either = record { whole = whole; in_part = in_part }

  -- ---- by what speaks against it

  module _ (hears : found.heard ≡ heard_of batches h) (id : ℕ) where
    abbrev act_of : world_steps.Step → Act
    act_of step = over_world t w line found step

    free_acts : notarize_fault tail false now store.items found.heard ≡ None → ActsEither id t (act_of (notarized w (Some store) now found.heard found.refusal))
    unfolding notary_calls line
    free_acts free = files_either free hears id (notarized w (Some store) now found.heard found.refusal)
        (ap (λ (fault : Option AuditFail). (world_steps.unless fault w (carried_out w store (intent_in store now found.heard) found.refusal)).world) free ∙ carried_world w store (intent_in store now found.heard) found.refusal)
        (ap (λ (fault : Option AuditFail). unless fault (filing_calls w next)) free)

    refused_acts : (fail : AuditFail) → notarize_fault tail false now store.items found.heard ≡ Some fail → ActsEither id t (act_of (notarized w (Some store) now found.heard found.refusal))
    unfolding notary_calls line
    refused_acts fail cause = without_notary id t (act_of (notarized w (Some store) now found.heard found.refusal))
        (ap (λ (fault : Option AuditFail). unless fault (filing_calls w next)) cause)
        (ap (λ (fault : Option AuditFail). (world_steps.unless fault w (carried_out w store (intent_in store now found.heard) found.refusal)).world.lists) cause)

    store_acts : ActsEither id t (act_of (notarized w (Some store) now found.heard found.refusal))
    store_acts = by (notarize_fault tail false now store.items found.heard) refl
      where
        by : (fault : Option AuditFail) → notarize_fault tail false now store.items found.heard ≡ fault → ActsEither id t (act_of (notarized w (Some store) now found.heard found.refusal))
        by None free = free_acts free
        by (Some fail) cause = refused_acts fail cause

-- ---- whatever is stored

with_store : (id i : ℕ) (t : Scene) (found : Found) → IsBytes t.bytes → (o : Option statements.Database) → store_in i t.bytes ≡ o → IfSome o (MayFile (world_with t i o) t.clock found) → ActsEither id t (over_world t (world_with t i o) line found (notarized (world_with t i o) o t.clock found.heard found.refusal))
unfolding notary_calls line
with_store id i t found bytes None is may = without_notary id t (over_world t (world_with t i None) line found (notarized (world_with t i None) None t.clock found.heard found.refusal)) refl refl
with_store id i t found bytes (Some store) is may = store_acts i t found store is bytes may.heard id

pub notarize_acts : (id : ℕ) (t : Scene) (o : Option ℕ) (found : Found) → MayBeFound o t (Ok (lines.Plain stmts.Notarize)) found → IsBytes t.bytes → ActsEither id t (over_store t o (lines.Plain stmts.Notarize) found)
unfolding world_of world_steps.step line
notarize_acts id t None found may bytes = without_notary id t (over_store t None (lines.Plain stmts.Notarize) found) refl refl
notarize_acts id t (Some i) found may bytes = with_store id i t found bytes (store_in i t.bytes) refl may

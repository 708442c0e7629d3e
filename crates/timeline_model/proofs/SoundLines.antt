-- Notarizations and validations keep a scene sound, and so do all lines.
use Rattle.std.proofs.Common.{◌≡◌, ◌⊎◌, inl, inr, ℕ, zero, suc, ◌+◌, ◌-◌, ◌<◌, ◌≤◌, ◌==◌, Bool, true, false, List, [], ◌∷◌, ◌++◌, length, take, Option, Some, None, IfSome, Result, Ok, Err, refl, sym, ap, subst, ◌∙◌, arith, length-take}
use Rattle.std.specs.Prelude.{if◌then◌else◌, codes}
use Rattle.std.specs.Option.{option_map}
use Rattle.std.proofs.lemmas.Bool.{cases_eq, eq-eqb}
use Rattle.std.proofs.lemmas.Option.{same_Some, none-some}
use Rattle.std.proofs.lemmas.List.{append-nil, take_all}
use Rattle.byte_grammar.specs.Reading.{IsBytes}
use Rattle.disk_words.specs.Disk as disks
use Rattle.disk_words.specs.Record.{image_of}
use Rattle.disk_model.specs.Moments.{is_done}
use Rattle.outside_words.specs.Runs.{after_calls}
use Rattle.tuple_bytes.specs.declared.item.Item.{Item}
use Rattle.tuple_bytes.specs.declared.item.Item.TheVariants as items
use Rattle.tuple_bytes.specs.declared.header.Header.{Header}
use Rattle.tuple_bytes.specs.Spelling.{FitsHeader}
use Rattle.history_model.specs.declared.stored.Stored.{Stored}
use Rattle.history_model.proofs.Stores.{stored_history}
use Rattle.history_model.specs.Stored.{stored}
use Rattle.history_model.specs.History.{History, history}
use Rattle.notary_link.specs.declared.mark.Mark.{Mark}
use Rattle.notary_link.specs.Batches.{Batch}
use Rattle.notary_link.specs.Notary.{Call, Lists}
use Rattle.notary_link.specs.Filing.{filings, fitting, room_in}
use Rattle.notary_link.proofs.Fitting.{fitting_few}
use Rattle.audit_model.specs.Altered.{history_in, under_id}
use Rattle.audit_model.specs.Sound.{IsNotarized, HoldsNotarized}
use Rattle.audit_model.proofs.Adding.{added_stays}
use Rattle.store_engine.specs.Opened.{Stores, StoresOldOrNew}
use Rattle.store_engine.specs.Refusals.{Tail}
use Rattle.stmt_text.specs.declared.event.Event.TheVariants as events
use Rattle.stmt_text.specs.declared.error.ParseFail.{ParseFail}
use Rattle.stmt_text.specs.declared.stmt.LineAlgorithm.{LineAlgorithm}
use Rattle.stmt_text.specs.declared.stmt.Stmt.{Stmt}
use Rattle.stmt_text.specs.declared.stmt.Stmt.TheVariants as stmts
use Rattle.stmt_text.specs.declared.line.Line.{Line}
use Rattle.stmt_text.specs.declared.line.Line.TheVariants as lines
use Rattle.stmt_text.specs.Fits.{FitsParts}
use Rattle.statement_core.specs.Database as statements
use Rattle.validator.specs.declared.verdict.Verdict.{Verdict}
use Rattle.validator.specs.declared.fail.AuditFail.{AuditFail}
use Rattle.validator.specs.Notarizing.{Heard, heard_of, notarize_fault, next_batches, frontier_for}
use Rattle.validator.specs.Reaching.{with_frontier_for}
use Rattle.validator.specs.Texts.{refusal_text}
use Rattle.validator.specs.Turning.{Turn}
use Rattle.validator.specs.Verdicts.{mark_of}
use Rattle.validator.proofs.Growing.{IsFiledUpTo, need_follows, counted_more, notarized_more}
use Rattle.store_world.specs.Found.{Found}
use Rattle.store_world.specs.Laws.{HoldsFiled, TellsNoAlteration}
use Rattle.store_world.proofs.SoundWorlds.{sound_worlds}
use Rattle.store_world.specs.World as worlds
use Rattle.store_world.specs.World.{history_or, old_under}
use Rattle.store_world.specs.Steps as world_steps
use Rattle.store_world.specs.Steps.{notarized, intent_in, carried_out, turn_in, turns_world, turned, validated, has_more, piece_audited, analysed, algorithm_of, reached}
use Rattle.store_world.specs.Finding.{IsHeard, MayFile, MayFind}
use Rattle.store_world.proofs.LineKinds.{goes_to_tables}
use Rattle.store_world.proofs.Analysing.{analysed_stays}
use Rattle.timeline_model.specs.Scene.{Scene, Crash, entered_anew, nothing_yet, store_in, world_with, world_of, held, batches_of}
use Rattle.store_engine.specs.Appended.{standing}
use Rattle.store_world.specs.LineCalls.{end_of_store, items_added, with_items, appends, notary_calls, validate_calls, audit_calls, noting, filing_calls, unless}
use Rattle.timeline_model.specs.Lines.{Act, says, refuses, over_world, over_store, header_at, act}
use Rattle.timeline_model.specs.Timeline.{Event, step, without_crash, act_on, name_of, after, with_calls, calls_in, stopped, IsDrillLine, IsReading, FitsReading, MayBeFound, IsTimeline, MayCome}
use Rattle.timeline_model.specs.Sound.{IsFromInside, stored_by, stores, AllFromInside, HasAlso, TimelinesStaySound, EventsKeepItems, NextLinesTellNoAlteration}
use Rattle.store_world.proofs.LineItems.{none_added, carried_world}
use Rattle.timeline_model.proofs.Acts.{take_none}
use Rattle.timeline_model.proofs.Bytes.{all_calls, ItemsLast, none_last, none_stopped}
use Rattle.timeline_model.proofs.Stopped.{stopped_stores}
use Rattle.timeline_model.proofs.Doings.{history_same, StoreIs, store_is}
use Rattle.timeline_model.proofs.Events.{found_without_crash, fit_after, nothing_fit}
use Rattle.timeline_model.proofs.StayBytes.{still_fit}
use Rattle.timeline_model.proofs.Sessions.{IsFit}
use Rattle.store_world.proofs.Validating.{with_validated, with_audit}
use Rattle.timeline_model.proofs.Turning.{behind_sealed, policy_takes}
use Rattle.timeline_model.proofs.Sealing as sealing
use Rattle.timeline_model.proofs.Sealing.{HasMore, more_with, calls_file, take_inner, frontier_items}
use Rattle.timeline_model.proofs.Sound.{IsSoundScene, Extends, IsGood, SoundEither, good_same, under_sound, quiet_sound, init_sound, stored_held, stays, gets, tables_by, tables_sound}
use Rattle.digest_model.specs.Layout.{layout}

-- ---- a validation, and a piece of an audit

noted_batches : (n i : ℕ) (m : Option Mark) (lists : Lists) (id : ℕ) → (with_calls (take n (noting i m)) lists).batches id ≡ lists.batches id
noted_batches zero i m lists id = refl
noted_batches (suc n) i None lists id = refl
noted_batches (suc zero) i (Some mark) lists id = refl
noted_batches (suc (suc n)) i (Some mark) lists id = refl

validated_batches : (n : ℕ) (w : worlds.World) (now : ℕ) (found : Result Verdict AuditFail) (lists : Lists) (id : ℕ) → (with_calls (take n (validate_calls w now found)) lists).batches id ≡ lists.batches id
validated_batches n w now (Ok verdict) lists id = noted_batches n w.id (mark_of verdict now) lists id
validated_batches n w now (Err fail) lists id = ap (λ (calls : List Call). (with_calls calls lists).batches id) (take_none n)

audited_batches : (b : Bool) (n : ℕ) (w : worlds.World) (now : ℕ) (found : Result Verdict AuditFail) (lists : Lists) (id : ℕ) → (with_calls (take n (audit_calls b w now found)) lists).batches id ≡ lists.batches id
audited_batches true n w now found lists id = ap (λ (calls : List Call). (with_calls calls lists).batches id) (take_none n)
audited_batches false n w now found lists id = validated_batches n w now found lists id

-- a line that leaves the store and its batches
asked_by : (i : ℕ) (t : Scene) (line : Line) (found : Found) (o : Option statements.Database) (s : world_steps.Step) → s.world.store ≡ o → ((id : ℕ) → s.world.lists.batches id ≡ t.lists.batches id)
    → ((n id : ℕ) → (with_calls (take n (notary_calls (world_with t i o) line t.clock found)) t.lists).batches id ≡ t.lists.batches id) → SoundEither (items_added o s.world.store) t (over_world t (world_with t i o) line found s)
asked_by i t line found o s store_same batches_same calls_same = record {
  whole = good_same (items_added o s.world.store) t (over_world t (world_with t i o) line found s).next.scene batches_same (ap (λ (its : List Item). history_in (stored (with_items (end_of_store o) its t.bytes))) none);
  in_part = λ crash soon. good_same (items_added o s.world.store) t (stopped t crash (over_world t (world_with t i o) line found s))
      (calls_same (crash.after - length (appends (standing (end_of_store o) t.bytes) (items_added o s.world.store))))
      (ap (λ (x : List ℕ). history_in (stored x)) (none_stopped crash.choice crash.after (end_of_store o) (items_added o s.world.store) t.bytes none));
  lasts = subst (ItemsLast t.bytes (end_of_store o)) (sym none) (none_last t.bytes (end_of_store o));
}
  where
    none : items_added o s.world.store ≡ []
    none = ap (items_added o) store_same ∙ none_added o

validate_by : (i : ℕ) (t : Scene) (found : Found) → (o : Option statements.Database) → SoundEither (items_added o (validated (world_with t i o) t.clock found.verdict found.refusal).world.store) t (over_world t (world_with t i o) (lines.Plain stmts.Validate) found (validated (world_with t i o) t.clock found.verdict found.refusal))
unfolding notary_calls
validate_by i t found o =
    let parts = with_validated (world_with t i o) t.clock found.verdict found.refusal in
    asked_by i t (lines.Plain stmts.Validate) found o (validated (world_with t i o) t.clock found.verdict found.refusal) parts.same.store parts.batches (λ n id. validated_batches n (world_with t i o) t.clock found.verdict t.lists id)

validate_sound : (t : Scene) (o : Option ℕ) (found : Found) → SoundEither (stored_by o t (Ok (lines.Plain stmts.Validate)) found) t (over_store t o (lines.Plain stmts.Validate) found)
unfolding world_of world_steps.step
validate_sound t None found = quiet_sound [] t (refuses t (codes "NotAStore")) refl refl
validate_sound t (Some i) found = validate_by i t found (store_in i t.bytes)

audit_by : (i : ℕ) (t : Scene) (found : Found) → (o : Option statements.Database) → let w = world_with t i o in let s = piece_audited (has_more w) w t.clock found.verdict found.refusal in SoundEither (items_added o s.world.store) t (over_world t w (lines.Plain stmts.Audit) found s)
unfolding notary_calls
audit_by i t found o =
    let w = world_with t i o in
    let parts = with_audit (has_more w) w t.clock found.verdict found.refusal in
    asked_by i t (lines.Plain stmts.Audit) found o (piece_audited (has_more w) w t.clock found.verdict found.refusal) parts.same.store parts.batches (λ n id. audited_batches (has_more w) n w t.clock found.verdict t.lists id)

audit_sound : (t : Scene) (o : Option ℕ) (found : Found) → SoundEither (stored_by o t (Ok (lines.Plain stmts.Audit)) found) t (over_store t o (lines.Plain stmts.Audit) found)
unfolding world_of world_steps.step
audit_sound t None found = quiet_sound [] t (refuses t (codes "NotAStore")) refl refl
audit_sound t (Some i) found = audit_by i t found (store_in i t.bytes)

-- ---- an analysis

analyse_by : (i : ℕ) (t : Scene) (algorithm : LineAlgorithm) (era : Option ℕ) (found : Found) → (o : Option statements.Database)
    → SoundEither (items_added o (analysed (world_with t i o) (algorithm_of algorithm) found.analysis found.body).world.store) t (over_world t (world_with t i o) (lines.Plain (stmts.Analyse algorithm era)) found (analysed (world_with t i o) (algorithm_of algorithm) found.analysis found.body))
unfolding notary_calls
analyse_by i t algorithm era found o =
    let stays_so = analysed_stays (world_with t i o) (algorithm_of algorithm) found.analysis found.body in
    asked_by i t (lines.Plain (stmts.Analyse algorithm era)) found o (analysed (world_with t i o) (algorithm_of algorithm) found.analysis found.body)
    (ap (λ (w : worlds.World). w.store) stays_so) (λ id. ap (λ (w : worlds.World). w.lists.batches id) stays_so) (λ n id. ap (λ (calls : List Call). (with_calls calls t.lists).batches id) (take_none n))

analyse_sound : (t : Scene) (algorithm : LineAlgorithm) (era o : Option ℕ) (found : Found) → SoundEither (stored_by o t (Ok (lines.Plain (stmts.Analyse algorithm era))) found) t (over_store t o (lines.Plain (stmts.Analyse algorithm era)) found)
unfolding world_of world_steps.step
analyse_sound t algorithm era None found = quiet_sound [] t (refuses t (codes "NotAStore")) refl refl
analyse_sound t algorithm era (Some i) found = analyse_by i t algorithm era found (store_in i t.bytes)

-- ---- a policy

module _ (i : ℕ) (t : Scene) (k algs : ℕ) (exponent : k ≤ 10) (chains : algs ≤ 3) (found : Found) (fits : IsFit t) where
  abbrev policy_line : Line
  policy_line = lines.Plain (stmts.Policy k algs)

  module _ (store : statements.Database) (is : store_in i t.bytes ≡ Some store) (hears : found.heard ≡ heard_of (t.lists.batches i) (history store.header store.items)) where
    abbrev turn_world : worlds.World
    turn_world = world_with t i (Some store)

    abbrev turn : Turn
    turn = turn_in store found.heard k algs

    no_calls : notary_calls turn_world policy_line t.clock found ≡ []
    unfolding notary_calls
    no_calls = refl

    behind : (id n : ℕ) → store.header.id ≡ id → length (batches_of t id) ≡ n + 1 → n ≤ found.heard.count - 1
    behind id n own many = behind_sealed i t found store is hears k algs n (ap (λ (x : ℕ). length (t.lists.batches x)) (sym (store_is i t.bytes store is).own ∙ own) ∙ many)

    turned_by : (fault : Option AuditFail) → turn.fault ≡ fault → SoundEither (items_added (Some store) (world_steps.unless fault turn_world (turns_world turn_world store turn)).world.store) t (over_world t turn_world policy_line found (world_steps.unless fault turn_world (turns_world turn_world store turn)))
    turned_by (Some fail) cause = stays i t policy_line found store is fits.bytes no_calls (items_added (Some store) (Some store)) (world_steps.refuses turn_world (refusal_text fail)) refl refl
    turned_by None free = gets i t policy_line found store is fits.bytes no_calls (turns_world turn_world store turn) turn.item (policy_takes i t found store is hears k algs exponent chains free) refl tt behind refl

  policy_by : (o : Option statements.Database) → store_in i t.bytes ≡ o → IfSome o (IsHeard (world_with t i o) found)
      → SoundEither (items_added o (turned (world_with t i o) o found.heard k algs).world.store) t (over_world t (world_with t i o) policy_line found (turned (world_with t i o) o found.heard k algs))
  unfolding notary_calls
  policy_by None is hears = tables_by i t policy_line ((exponent, chains), refl) found fits None is (turned (world_with t i None) None found.heard k algs) refl refl
  policy_by (Some store) is hears = turned_by store is hears (turn_in store found.heard k algs).fault refl

policy_sound : (t : Scene) (k algs : ℕ) → k ≤ 10 → algs ≤ 3 → (o : Option ℕ) (found : Found) → MayBeFound o t (Ok (lines.Plain (stmts.Policy k algs))) found → IsFit t
    → SoundEither (stored_by o t (Ok (lines.Plain (stmts.Policy k algs))) found) t (over_store t o (lines.Plain (stmts.Policy k algs)) found)
unfolding world_of world_steps.step
policy_sound t k algs exponent chains None found may fits = quiet_sound [] t (refuses t (codes "NotAStore")) refl refl
policy_sound t k algs exponent chains (Some i) found may fits = policy_by i t k algs exponent chains found fits (store_in i t.bytes) refl may

-- ---- a notarization

line : Line
line = lines.Plain stmts.Notarize

around_is : (o : Option ℕ) (its : List Item) → with_frontier_for o its ≡ its ++ frontier_items o
unfolding frontier_items
around_is None its = sym (append-nil its)
around_is (Some moment) its = refl

module _ (i : ℕ) (t : Scene) (found : Found) (store : statements.Database) (is : store_in i t.bytes ≡ Some store) (bytes_before : IsBytes t.bytes)
    (hears : found.heard ≡ heard_of (t.lists.batches i) (history store.header store.items)) where
  abbrev h : History
  h = history store.header store.items

  abbrev batches : List Batch
  batches = t.lists.batches i

  abbrev w : worlds.World
  w = world_with t i (Some store)

  abbrev now : ℕ
  now = t.clock

  abbrev tail : Tail
  tail = statements.tail_of_database store

  abbrev need : Option ℕ
  need = frontier_for (layout h) tail now found.heard.count

  abbrev next : List Batch
  next = next_batches h now found.heard.count

  abbrev fit : ℕ
  fit = fitting (room_in t.limits t.lists) next

  abbrev s : History
  s = history store.header (with_frontier_for need store.items)

  facts : StoreIs i t.bytes store
  facts = store_is i t.bytes store is

  stores_now : Stores store.header store.items t.bytes
  stores_now = record { header_is = facts.header; items_are = facts.items; format = facts.format }

  held_now : held t ≡ Some h
  held_now = stored_held store.header store.items t stores_now

  -- there is a store
  stored_already : (after : Scene) → held t ≡ None → (stored after.bytes).items ≡ []
  stored_already after none = absurd (none-some h (sym none ∙ held_now))

  -- ---- it stays sound

  module _ (sound : IsSoundScene t) where
    sound_now : (id : ℕ) → HoldsFiled (batches_of t id) id (Some h)
    sound_now id = subst (HoldsFiled (batches_of t id) id) held_now (sound id)

    filed_before : IsFiledUpTo batches h (length batches)
    filed_before = by (sound_now i)
      where
        by : HoldsFiled batches i (Some h) → IsFiledUpTo batches h (length batches)
        by (inl none) = subst (λ (bs : List Batch). IsFiledUpTo bs h (length bs)) (sym none) refl
        by (inr known) = subst (λ (n : ℕ). IsFiledUpTo batches h n) (sym known.1) known.2.filed.seals

    -- the Frontier alone
    still : (id : ℕ) → HoldsFiled (batches_of t id) id (Some s)
    still id = by need refl (sound_now id)
      where
        by : (o : Option ℕ) → need ≡ o → HoldsFiled (batches_of t id) id (Some h) → HoldsFiled (batches_of t id) id (Some (history store.header (with_frontier_for o store.items)))
        by None e held_filed = held_filed
        by (Some moment) e (inl none) = inl none
        by (Some moment) e (inr known) = inr (known.0, known.1, added_stays (batches_of t id) id known.0 store.header store.items (items.Frontier moment) (sealing.fits i t found store is bytes_before) known.2 (need_follows (layout h) tail store.items refl now found.heard.count moment e) tt)

    -- with some of the next batches
    more_filed : notarize_fault tail false now store.items found.heard ≡ None → (j : ℕ) → suc j ≤ length next → HoldsFiled (batches ++ take (suc j) next) i (Some s)
    more_filed free j few = by found.heard.count (ap (λ (x : Heard). x.count) hears) few
      where
        MoreFor : ℕ → Type 0
        MoreFor count = suc j ≤ length (next_batches h now count)
            → HoldsFiled (batches ++ take (suc j) (next_batches h now count)) i (Some (history store.header (with_frontier_for (frontier_for (layout h) tail now count) store.items)))

        by_length : MoreFor (length batches)
        by_length few = inr (
          length batches + suc j - 1,
          counted_more tail store.items refl now batches (sealing.within i t found store is bytes_before free) filed_before (suc j) (omega arith) few,
          subst (λ (id : ℕ). IsNotarized (batches ++ take (suc j) (next_batches h now (length batches))) id (length batches + suc j - 1) (history store.header (with_frontier_for (frontier_for (layout h) tail now (length batches)) store.items))) facts.own
              (notarized_more tail store.items refl now batches (sealing.within i t found store is bytes_before free) filed_before (suc j) (omega arith) few),
        )

        by : (count : ℕ) → count ≡ length batches → MoreFor count
        by count is_length = subst MoreFor (sym is_length) by_length

    -- another id has nothing
    nothing_else : (id : ℕ) → (id ≡ i → ⊥) → HoldsFiled (batches_of t id) id (Some h) → batches_of t id ≡ []
    nothing_else id other (inl none) = none
    nothing_else id other (inr known) = absurd (other (sym known.2.filed.header ∙ facts.own))

    sound_after : notarize_fault tail false now store.items found.heard ≡ None → (after : Scene) (j : ℕ) → j ≤ length next → (held after ≡ Some h) ⊎ (held after ≡ Some s) → (0 < j → held after ≡ Some s) → HasMore i (take j next) t.lists after.lists → IsSoundScene after
    sound_after free after j few either reached_end more id = by (cases_eq id i)
      where
        here : (k : ℕ) → j ≡ k → HoldsFiled (after.lists.batches i) i (held after)
        here zero none = subst (λ (bs : List Batch). HoldsFiled bs i (held after)) (sym (more.here ∙ ap (λ (n : ℕ). batches ++ take n next) none ∙ append-nil batches)) (elim either [
          | inl old ↦ subst (HoldsFiled batches i) (sym old) (sound_now i)
          | inr new ↦ subst (HoldsFiled batches i) (sym new) (still i)
        ])
        here (suc k) some = subst (λ (bs : List Batch). HoldsFiled bs i (held after)) (sym (more.here ∙ ap (λ (n : ℕ). batches ++ take n next) some))
            (subst (HoldsFiled (batches ++ take (suc k) next) i) (sym (reached_end (omega (arith, some)))) (more_filed free k (omega (arith, few, some))))

        by : (id ≡ i) ⊎ (id ≡ i → ⊥) → HoldsFiled (after.lists.batches id) id (held after)
        by (inl own) = subst (λ (x : ℕ). HoldsFiled (after.lists.batches x) x (held after)) (sym own) (here j refl)
        by (inr other) = inl (more.others id other ∙ nothing_else id other (sound_now id))

  module _ (free : notarize_fault tail false now store.items found.heard ≡ None) where
    -- some of the calls of its Frontier
    part_by : (o : Option ℕ) → need ≡ o → (choice k : ℕ) (after : Scene) → after.bytes ≡ image_of choice t.bytes (after_calls is_done (take k (appends (standing store.end t.bytes) (frontier_items o))) []) → (held after ≡ Some h) ⊎ (held after ≡ Some (history store.header (with_frontier_for o store.items)))
    unfolding frontier_items
    part_by None e choice k after bytes_are = inl (ap (λ (x : List ℕ). history_in (stored x)) (bytes_are ∙ ap (λ (calls : List disks.Call). image_of choice t.bytes (after_calls is_done calls [])) (take_none k) ∙ all_calls choice [] t.bytes) ∙ held_now)
    part_by (Some moment) e choice k after bytes_are = by (subst (λ (x : List ℕ). StoresOldOrNew store.header store.items (items.Frontier moment) x) (sym bytes_are)
        (subst (λ (end : ℕ). StoresOldOrNew store.header store.items (items.Frontier moment) (image_of choice t.bytes (after_calls is_done (take k (appends (standing end t.bytes) (items.Frontier moment ∷ []))) []))) facts.end
        (stopped_stores store.header store.items (items.Frontier moment) t.bytes stores_now (sealing.frontier_takes i t found store is bytes_before free moment e) choice k)))
      where
        by : StoresOldOrNew store.header store.items (items.Frontier moment) after.bytes → (held after ≡ Some h) ⊎ (held after ≡ Some (history store.header (store.items ++ items.Frontier moment ∷ [])))
        by (inl old) = inl (stored_held store.header store.items after old)
        by (inr new) = inr (stored_held store.header (store.items ++ items.Frontier moment ∷ []) after new)

    abbrev bytes_to : List Item → List ℕ
    bytes_to its = with_items store.end its t.bytes

    abbrev added : List Item
    added = items_added (Some store) (Some (reached need store))

    abbrev new_world : worlds.World
    new_world = world_steps.filed (worlds.with_store w (reached need store)) next

    module _ (step : world_steps.Step) (world_is : step.world ≡ new_world) (calls_are : notary_calls w line now found ≡ filing_calls w next) where
      abbrev a : Act
      a = over_world t w line found step

      items_same : items_added (Some store) step.world.store ≡ added
      items_same = ap (λ (x : worlds.World). items_added (Some store) x.store) world_is

      -- the store has what the line stores
      extends : (after : Scene) → (held after ≡ Some h) ⊎ (held after ≡ Some s) → Extends (items_added (Some store) step.world.store) t after
      extends after either k some = by either
        where
          same : history store.header store.items ≡ k
          same = same_Some (history store.header store.items) k (sym held_now ∙ some)

          by : (held after ≡ Some (history store.header store.items)) ⊎ (held after ≡ Some (history store.header (with_frontier_for (frontier_for (layout (history store.header store.items)) (statements.tail_of_database store) t.clock found.heard.count) store.items)))
              → (held after ≡ Some k) ⊎ (held after ≡ Some (history k.header (k.items ++ items_added (Some store) step.world.store)))
          by (inl old) = inl (old ∙ ap (λ (x : History). Some x) same)
          by (inr new) = inr (new ∙ ap (λ (l : List Item). Some (history store.header l)) (around_is need store.items ∙ ap (λ (l : List Item). store.items ++ l) (sym (items_same ∙ sealing.added_is i t found store is bytes_before need)))
              ∙ ap (λ (x : History). Some (history x.header (x.items ++ items_added (Some store) step.world.store))) same)

      whole_sound : IsGood (items_added (Some store) step.world.store) t a.next.scene
      whole_sound = record {
        sound = λ sound. sound_after sound free a.next.scene fit (fitting_few (room_in t.limits t.lists) next) (inr full) (λ some. full)
            (subst (λ (x : worlds.World). HasMore i (take fit next) t.lists x.lists) (sym world_is) (more_with i (take fit next) t.lists));
        extends = extends a.next.scene (inr full);
        bare = stored_already a.next.scene;
      }
        where
          full : held (over_world t (world_with t i (Some store)) line found step).next.scene ≡ Some (history store.header (with_frontier_for (frontier_for (layout (history store.header store.items)) (statements.tail_of_database store) t.clock found.heard.count) store.items))
          full = sealing.held_after i t found store is bytes_before free (over_world t (world_with t i (Some store)) line found step).next.scene (ap bytes_to items_same)

      module _ (crash : Crash) (soon : crash.after < calls_in a) where
        abbrev j : ℕ
        j = crash.after - length a.disk_calls

        j_fits : j ≤ fit
        j_fits = omega (arith, soon, ap length calls_are, length-take (suc fit) (filings i (length batches) next))

        j_few : j ≤ length next
        j_few = omega (arith, j_fits, fitting_few (room_in t.limits t.lists) next)

        calls_now : take j a.notary_calls ≡ take j (filings i (length batches) next)
        calls_now = ap (take j) calls_are ∙ take_inner j (suc fit) (filings i (length batches) next) (omega (arith, j_fits))

        either_now : (held (stopped t crash a) ≡ Some h) ⊎ (held (stopped t crash a) ≡ Some s)
        either_now = part_by need refl crash.choice crash.after (stopped t crash a)
            (ap (λ (its : List Item). image_of crash.choice t.bytes (after_calls is_done (take crash.after (appends (standing store.end t.bytes) its)) [])) (items_same ∙ sealing.added_is i t found store is bytes_before need))

        end_now : 0 < j → held (stopped t crash a) ≡ Some s
        end_now some =
            let all : take crash.after a.disk_calls ≡ a.disk_calls = take_all crash.after a.disk_calls (omega (arith, some)) in
            let same = items_same ∙ sealing.added_is i t found store is bytes_before need in
            sealing.held_after i t found store is bytes_before free (stopped t crash a)
            (ap (λ (calls : List disks.Call). image_of crash.choice t.bytes (after_calls is_done calls [])) (all ∙ ap (appends (standing store.end t.bytes)) same)
            ∙ sealing.image_by i t found store is bytes_before free need refl crash.choice
            ∙ ap bytes_to (sym (sealing.added_is i t found store is bytes_before need)))

        part_sound : IsGood (items_added (Some store) step.world.store) t (stopped t crash a)
        part_sound = record {
          sound = λ sound. sound_after sound free (stopped t crash a) j j_few either_now end_now
              (subst (λ (calls : List Call). HasMore i (take j next) t.lists (with_calls calls t.lists)) (sym calls_now) (calls_file i (length batches) j next t.lists));
          extends = extends (stopped t crash a) either_now;
          bare = stored_already (stopped t crash a);
        }

      files_sound : SoundEither (items_added (Some store) step.world.store) t a
      files_sound = record {
        whole = whole_sound;
        in_part = part_sound;
        lasts = subst (ItemsLast t.bytes store.end) (sym (items_same ∙ sealing.added_is i t found store is bytes_before need)) (sealing.image_by i t found store is bytes_before free need refl);
      }

  store_sound : SoundEither (items_added (Some store) (notarized w (Some store) now found.heard found.refusal).world.store) t (over_world t w line found (notarized w (Some store) now found.heard found.refusal))
  unfolding notary_calls line
  store_sound = by (notarize_fault tail false now store.items found.heard) refl
    where
      by : (fault : Option AuditFail) → notarize_fault tail false now store.items found.heard ≡ fault → SoundEither (items_added (Some store) (notarized w (Some store) now found.heard found.refusal).world.store) t (over_world t w line found (notarized w (Some store) now found.heard found.refusal))
      by None free = files_sound free (notarized w (Some store) now found.heard found.refusal)
          (ap (λ (fault : Option AuditFail). (world_steps.unless fault w (carried_out w store (intent_in store now found.heard) found.refusal)).world) free ∙ carried_world w store (intent_in store now found.heard) found.refusal)
          (ap (λ (fault : Option AuditFail). unless fault (filing_calls w next)) free)
      by (Some fail) cause = stays i t line found store is bytes_before (ap (λ (fault : Option AuditFail). unless fault (filing_calls w next)) cause)
          (items_added (Some store) (notarized w (Some store) now found.heard found.refusal).world.store) (notarized w (Some store) now found.heard found.refusal)
          (ap (λ (fault : Option AuditFail). (world_steps.unless fault w (carried_out w store (intent_in store now found.heard) found.refusal)).world.store) cause)
          (ap (λ (fault : Option AuditFail). (world_steps.unless fault w (carried_out w store (intent_in store now found.heard) found.refusal)).world.lists) cause)

with_store : (i : ℕ) (t : Scene) (found : Found) → IsFit t → (o : Option statements.Database) → store_in i t.bytes ≡ o → IfSome o (MayFile (world_with t i o) t.clock found)
    → SoundEither (items_added o (notarized (world_with t i o) o t.clock found.heard found.refusal).world.store) t (over_world t (world_with t i o) line found (notarized (world_with t i o) o t.clock found.heard found.refusal))
unfolding notary_calls line
with_store i t found fits None is may = tables_by i t line (tt, refl) found fits None is (notarized (world_with t i None) None t.clock found.heard found.refusal) refl refl
with_store i t found fits (Some store) is may = store_sound i t found store is fits.bytes may.heard

notarize_sound : (t : Scene) (o : Option ℕ) (found : Found) → MayBeFound o t (Ok (lines.Plain stmts.Notarize)) found → IsFit t → SoundEither (stored_by o t (Ok (lines.Plain stmts.Notarize)) found) t (over_store t o (lines.Plain stmts.Notarize) found)
unfolding world_of world_steps.step line
notarize_sound t None found may fits = quiet_sound [] t (refuses t (codes "NotAStore")) refl refl
notarize_sound t (Some i) found may fits = with_store i t found fits (store_in i t.bytes) refl may

-- ---- each line

stmt_sound : (t : Scene) (stmt : Stmt) (found : Found) → IsDrillLine (lines.Plain stmt) → FitsParts (lines.Plain stmt) → MayBeFound t.id t (Ok (lines.Plain stmt)) found → IsFit t → SoundEither (stored_by t.id t (Ok (lines.Plain stmt)) found) t (act t (lines.Plain stmt) found)
unfolding act world_steps.step notary_calls
stmt_sound t stmts.Notarize found is parts may fits = notarize_sound t t.id found may fits
stmt_sound t (stmts.Policy k algs) found is parts may fits = policy_sound t k algs parts.0.0 parts.0.1 t.id found may fits
stmt_sound t stmts.Validate found is parts may fits = validate_sound t t.id found
stmt_sound t stmts.Audit found is parts may fits = audit_sound t t.id found
stmt_sound t (stmts.Now moment) found is parts may fits = quiet_sound (stored_by t.id t (Ok (lines.Plain (stmts.Now moment))) found) t (says (record t { clock = moment }) (codes "ok")) refl refl
stmt_sound t stmts.Begin found is parts may fits = absurd is
stmt_sound t stmts.Commit found is parts may fits = absurd is
stmt_sound t stmts.Abort found is parts may fits = absurd is
stmt_sound t (stmts.Analyse algorithm era) found is parts may fits = analyse_sound t algorithm era t.id found
stmt_sound t stmt found is parts may fits = tables_sound t t.id (lines.Plain stmt) parts found fits (goes_to_tables (lines.Plain stmt) tt)

line_sound : (t : Scene) (line : Line) (found : Found) → IsDrillLine line → IsFromInside (Ok line) → FitsParts line → MayBeFound t.id t (Ok line) found → IsFit t → SoundEither (stored_by t.id t (Ok line) found) t (act t line found)
unfolding act world_steps.step notary_calls
line_sound t (lines.Plain stmt) found is inside parts may fits = stmt_sound t stmt found is parts may fits
line_sound t (lines.Drill (events.Init id width k algs)) found is inside parts may fits = init_sound (stored_by t.id t (Ok (lines.Drill (events.Init id width k algs))) found) (entered_anew (record t { id = Some id })) t (header_at id t.clock width k algs) refl refl
line_sound t (lines.Drill (events.Crash after choice)) found is inside parts may fits = quiet_sound (stored_by t.id t (Ok (lines.Drill (events.Crash after choice))) found) t (says (record t { crash = Some (record { after = after; choice = choice }) }) (codes "ok")) refl refl
line_sound t (lines.Drill (events.Alter place bytes)) found is inside parts may fits = absurd inside
line_sound t (lines.Drill (events.Cut n)) found is inside parts may fits = absurd inside
line_sound t lines.Blank found is inside parts may fits = absurd is
line_sound t (lines.InSession session stmt) found is inside parts may fits = tables_sound t t.id (lines.InSession session stmt) parts found fits (goes_to_tables (lines.InSession session stmt) tt)

pub reading_sound : (t : Scene) (l : Result Line ParseFail) (found : Found) → IsReading l → IsFromInside l → FitsReading l → MayBeFound t.id t l found → IsFit t → SoundEither (stored_by t.id t l found) t (act_on t l found)
reading_sound t (Ok l) found is inside parts may fits = line_sound t l found is inside parts may fits
reading_sound t (Err fail) found is inside parts may fits = quiet_sound (stored_by t.id t (Err fail) found) t (refuses t (name_of fail)) refl refl

-- ---- all events

pub stored_without_crash : (o : Option ℕ) (t : Scene) (l : Result Line ParseFail) (found : Found) → stored_by o (without_crash t) l found ≡ stored_by o t l found
unfolding world_of
stored_without_crash None t l found = refl
stored_without_crash (Some id) t (Ok l) found = refl
stored_without_crash (Some id) t (Err fail) found = refl

pub event_good : (t : Scene) (e : Event) → IsFit t → MayCome t e → IsFromInside e.line → IsGood (stores t e) t (step t e.line e.found).scene
unfolding step
event_good t e fits may inside =
    let good = under_sound (stored_by t.id (without_crash t) e.line e.found) (without_crash t) (act_on (without_crash t) e.line e.found) t.crash
    (reading_sound (without_crash t) e.line e.found may.line inside may.fits (found_without_crash t.id t e.line e.found may.found) (still_fit t fits)) in
    record {
      sound = good.sound;
      extends = λ h some. subst (λ (more : List Item). HasAlso h more (held (step t e.line e.found).scene)) (stored_without_crash t.id t e.line e.found) (good.extends h some);
      bare = good.bare;
    }

pub all_sound : (t : Scene) (es : List Event) → IsFit t → IsSoundScene t → IsTimeline t es → AllFromInside es → IsSoundScene (after t es)
unfolding after
all_sound t [] fits sound is inside = sound
all_sound t (e ∷ es) fits sound is inside = (event_good (after t es) e (fit_after t es fits is.0) is.1 inside.1).sound (all_sound t es fits sound is.0 inside.0)

pub stay_sound : TimelinesStaySound
stay_sound limits es id is inside = all_sound (nothing_yet limits) es (nothing_fit limits) (λ any. inl refl) is inside id

pub keep_items : EventsKeepItems
unfolding after
keep_items limits e es h is inside some = (event_good (after (nothing_yet limits) es) e (fit_after (nothing_yet limits) es (nothing_fit limits) is.0) is.1 inside).extends h some

-- ---- the next line

sound_under : (filed_ones : List Batch) (id : ℕ) (header : Option Header) (x : Stored) → HoldsFiled filed_ones id (option_map (λ (hd : Header). history hd x.items) header) → HoldsFiled filed_ones id (under_id id header x)
sound_under filed_ones id header x (inl none) = inl none
sound_under filed_ones id None x (inr known) = absurd known.2
sound_under filed_ones id (Some hd) x (inr known) =
    let test : (hd.id == id) ≡ true = eq-eqb hd.id id known.2.filed.header in
    inr (known.0, known.1, subst (λ (b : Bool). HoldsNotarized filed_ones id known.0 (if b then Some (history hd x.items) else None)) (sym test) known.2)

fit_header : (t : Scene) (id : ℕ) → IsBytes t.bytes → (o : Option statements.Database) → store_in id t.bytes ≡ o → IfSome o (λ store. FitsHeader store.header × (store.header.id ≡ id))
fit_header t id bytes None is = tt
fit_header t id bytes (Some store) is = (let facts = store_is id t.bytes store is in ((stored_history t.bytes store.header bytes facts.header).header, facts.own))

tells : (t : Scene) (id : ℕ) (line : Line) (found : Found) → IsBytes t.bytes → IsSoundScene t → MayFind (world_of t id) line t.clock found → TellsNoAlteration (world_of t id) line found
unfolding world_of
tells t id line found bytes sound may =
    let under : HoldsFiled (batches_of t id) id (history_or (store_in id t.bytes) (old_under id t.bytes)) =
    subst (HoldsFiled (batches_of t id) id) (sym (history_same id t.bytes)) (sound_under (batches_of t id) id (stored t.bytes).header (stored t.bytes) (sound id)) in
    (sound_worlds (world_of t id) line t.clock found (fit_header t id bytes (store_in id t.bytes) refl) under may).2

pub next_tells : NextLinesTellNoAlteration
next_tells limits es id line found is inside may = tells (after (nothing_yet limits) es) id line found (fit_after (nothing_yet limits) es (nothing_fit limits) is).bytes (all_sound (nothing_yet limits) es (nothing_fit limits) (λ any. inl refl) is inside) may

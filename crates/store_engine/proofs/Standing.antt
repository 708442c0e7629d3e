-- A store before and behind an item.
use Rattle.std.proofs.Common.{◌≡◌, inl, inr, ℕ, ◌+◌, ◌<◌, ◌≤◌, max, List, [], ◌∷◌, ◌++◌, Option, Some, None, Ok, Err, refl, sym, ap, subst, ◌∙◌, arith}
use Rattle.std.specs.Option.{option_map}
use Rattle.std.proofs.lemmas.Bool.{cases_lt}
use Rattle.tuple_bytes.specs.declared.header.Header.{Header}
use Rattle.tuple_bytes.specs.declared.item.Item.{Item}
use Rattle.tuple_bytes.specs.declared.item.Item.TheVariants as kinds
use Rattle.tuple_bytes.specs.declared.item.Txn.{Txn}
use Rattle.tuple_bytes.specs.Limits.{max_granules}
use Rattle.tuple_bytes.specs.Spelling.{spell_item, spell_txn}
use Rattle.history_model.specs.History.{txn_in, granule_of}
use Rattle.tt_table.specs.Versions.{applied}
use Rattle.history_model.specs.Placing.{next_start, gate_behind}
use Rattle.segment_file.specs.Append.{Standing, behind}
use Rattle.segment_file.proofs.LaidOut.{place_stays, place_goes}
use Rattle.chain_state.specs.Chained.{Chained, without_room, with_chained}
use Rattle.store_engine.specs.declared.fail.StoreFail.{StoreFail}
use Rattle.store_engine.specs.declared.fail.StoreFail.TheVariants as fails
use Rattle.store_engine.specs.declared.contents.Contents.{Contents}
use Rattle.store_engine.specs.Opened.{Opened}
use Rattle.store_engine.specs.Contents.{Tells, after_item}
use Rattle.store_engine.specs.Chaining.{AreChainsOf}
use Rattle.store_engine.specs.Commits.{StandsAfter, with_txn, with_item}
use Rattle.store_engine.specs.Adding.{IsBehind, GoesBehind}
use Rattle.store_engine.specs.Taking.{chains_with}
use Rattle.store_engine.proofs.Taken.{chains_other, chains_more}

-- the open store of a header, of what is known of its file, of what its chains show, and of where the file stands
abbrev pub opened_as : Header → Contents → Option Chained → Standing → Opened
opened_as header known shown at = record { header = header; count = known.count; last = known.last; tables = known.tables; eras = known.eras; chains = shown; at = at }

-- ---- what the chains show

pub shown_more : (t : Txn) (chains : Option Chained) → option_map without_room (option_map (with_chained t) chains) ≡ option_map (with_chained t) (option_map without_room chains)
shown_more t (Some c) = refl
shown_more t None = refl

pub shown_with : (item : Item) (chains : Option Chained) → option_map without_room (chains_with item chains) ≡ chains_with item (option_map without_room chains)
shown_with (kinds.Txn t) (Some c) = refl
shown_with (kinds.Frontier moment) (Some c) = refl
shown_with (kinds.Policy tile granule k algs) (Some c) = refl
shown_with (kinds.Txn t) None = refl
shown_with (kinds.Frontier moment) None = refl
shown_with (kinds.Policy tile granule k algs) None = refl

-- ---- a record was not appended

module _ (header : Header) (known : Contents) (shown : Option Chained) where
  pub stands_failed : (payload : List ℕ) (fail : StoreFail) (at now : Standing) (with_it : Opened) → GoesBehind payload (Err fail) at now → StandsAfter {A = Unit {0}} (Err fail) (opened_as header known shown at) with_it (opened_as header known shown now)
  stands_failed payload fails.DiskFault at now with_it goes = ap (opened_as header known shown) goes
  stands_failed payload fails.NoMemory at now with_it goes = inl (ap (opened_as header known shown) goes)
  stands_failed payload fails.StoreFull at now with_it goes = ap (opened_as header known shown) goes
  stands_failed payload fails.Closed at now with_it goes = ap (opened_as header known shown) goes
  stands_failed payload fails.NotAStore at now with_it goes = absurd goes
  stands_failed payload fails.OldFormat at now with_it goes = absurd goes
  stands_failed payload (fails.ClockBack last) at now with_it goes = absurd goes
  stands_failed payload fails.TooLate at now with_it goes = absurd goes
  stands_failed payload fails.TooManyOps at now with_it goes = absurd goes
  stands_failed payload fails.TooLong at now with_it goes = absurd goes

-- it begins where it would have
pub failed_end : (payload : List ℕ) (fail : StoreFail) (at now : Standing) → GoesBehind payload (Err fail) at now → now.end ≡ at.end
failed_end payload fails.DiskFault at now goes = ap (λ (s : Standing). s.end) goes
failed_end payload fails.NoMemory at now goes = ap (λ (s : Standing). s.end) goes
failed_end payload fails.StoreFull at now goes = ap (λ (s : Standing). s.end) goes
failed_end payload fails.Closed at now goes = ap (λ (s : Standing). s.end) goes
failed_end payload fails.NotAStore at now goes = absurd goes
failed_end payload fails.OldFormat at now goes = absurd goes
failed_end payload (fails.ClockBack last) at now goes = absurd goes
failed_end payload fails.TooLate at now goes = absurd goes
failed_end payload fails.TooManyOps at now goes = absurd goes
failed_end payload fails.TooLong at now goes = absurd goes

-- ---- behind an item

-- the next gate stands behind its record
pub far_behind : (end n : ℕ) → end + 5 ≤ gate_behind end n
far_behind end n = elim (cases_lt (end + 5 + n) (next_start end)) [
  | inl room ↦ omega (arith, place_stays end n room)
  | inr full ↦ omega (arith, place_goes end n full)
]

module _ (header : Header) (known more : Contents) (shown : Option Chained) (at now : Standing) (item : Item) (payload : List ℕ) (is : payload ≡ spell_item item) (goes : GoesBehind payload (Ok tt) at now) where
  stands_there : now ≡ behind at (spell_item item)
  stands_there = goes ∙ ap (behind at) is

  -- one without a transaction
  module _ (other : txn_in item ≡ None) (then_shown : Option Chained) (turns : then_shown ≡ chains_with item shown) where
    pub behind_other : ((items : List Item) → Tells header known items → Tells header more (items ++ item ∷ [])) → IsBehind item (opened_as header known shown at) (opened_as header more then_shown now)
    behind_other tells = record {
      header = refl;
      at = stands_there;
      knows = λ items k. (let t = tells items (record { count = k.count; last = k.last; tables = k.tables; eras = k.eras }) in record {
        count = t.count;
        last = t.last;
        tables = t.tables;
        eras = t.eras;
        chains = subst (AreChainsOf header (items ++ item ∷ [])) (sym turns) (chains_other header items item other shown k.chains);
      });
    }

  -- a transaction, which the chains took
  module _ (t : Txn) (it : item ≡ kinds.Txn t) (then_shown : Option Chained) (adds : then_shown ≡ option_map (with_chained t) shown) (wide : 0 < header.width) (follows : known.last ≤ t.moment) (small : granule_of header.width t.moment < max_granules) where
    pub behind_txn : ((items : List Item) → Tells header known items → Tells header more (items ++ item ∷ [])) → IsBehind item (opened_as header known shown at) (opened_as header more then_shown now)
    behind_txn tells = record {
      header = refl;
      at = stands_there;
      knows = λ items k. (let t' = tells items (record { count = k.count; last = k.last; tables = k.tables; eras = k.eras }) in record {
        count = t'.count;
        last = t'.last;
        tables = t'.tables;
        eras = t'.eras;
        chains = subst (λ (i : Item). AreChainsOf header (items ++ i ∷ []) then_shown) (sym it)
            (subst (AreChainsOf header (items ++ kinds.Txn t ∷ [])) (sym adds) (chains_more header items t wide (let was = k.last in omega (arith, was, follows)) small shown k.chains));
      });
    }

    pub stands_txn : more ≡ after_item known item → opened_as header more then_shown now ≡ with_item (opened_as header known shown at) item
    stands_txn is_more =
        let m : more ≡ after_item known (kinds.Txn t) = is_more ∙ ap (after_item known) it in
        let s : now ≡ behind at (spell_txn t) = stands_there ∙ ap (λ (i : Item). behind at (spell_item i)) it in
        let top : max known.last t.moment ≡ t.moment = omega (arith, follows) in
        let as_txn : opened_as header more then_shown now ≡ with_txn (opened_as header known shown at) t =
        ap (λ (c : Contents). opened_as header c then_shown now) m
        ∙ ap (λ (l : ℕ). opened_as header (record { count = known.count + 1; last = l; tables = applied t.moment t.ops known.tables; eras = known.eras }) then_shown now) top
        ∙ ap (λ (o : Option Chained). opened_as header (record { count = known.count + 1; last = t.moment; tables = applied t.moment t.ops known.tables; eras = known.eras }) o now) adds
        ∙ ap (opened_as header (record { count = known.count + 1; last = t.moment; tables = applied t.moment t.ops known.tables; eras = known.eras }) (option_map (with_chained t) shown)) s in
        subst (λ (i : Item). opened_as header more then_shown now ≡ with_item (opened_as header known shown at) i) (sym it) as_txn

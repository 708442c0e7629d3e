-- Payloads as the spellings of the items that they are read as.
use Rattle.std.proofs.Common.{◌≡◌, ℕ, ◌≤◌, List, [], ◌∷◌, ◌++◌, length, Option, sym, ap, ap₂, subst, ◌∙◌}
use Rattle.std.specs.List.{All, cons_option, filter_map}
use Rattle.std.proofs.lemmas.List.{map-append}
use Rattle.std.proofs.lemmas.List.Elements.{All-push, filter_map-append}
use Rattle.byte_grammar.specs.Reading.{IsBytes}
use Rattle.byte_grammar.specs.Gated.{FitsRecord}
use Rattle.tuple_bytes.specs.declared.item.Item.{Item}
use Rattle.tuple_bytes.specs.Items.{item_of}
use Rattle.tuple_bytes.specs.Spelling.{spell_item, FitsItem, Spells}
use Rattle.tuple_bytes.specs.Limits.{max_payload}
use Rattle.tuple_bytes.proofs.ItemLaws.{some_spelled, spelled_some, whole_again}
use Rattle.history_model.specs.Stored.{store_shape, items_of, IsStorable}
use Rattle.history_model.specs.Spelled.{AreSpellings}

-- one more payload, which a record of a store has
module _ (payload : List ℕ) (are : IsBytes payload) (fits : FitsRecord store_shape payload) where
  item : (i : Item) × Spells i payload
  item = some_spelled payload are fits.accepted

  read : filter_map item_of (payload ∷ []) ≡ item.0 ∷ []
  read = ap (λ (o : Option Item). cons_option o []) (whole_again payload item.0 item.1)

  pub read_more : (payloads : List (List ℕ)) → items_of (payloads ++ payload ∷ []) ≡ items_of payloads ++ filter_map item_of (payload ∷ [])
  read_more payloads = filter_map-append item_of payloads (payload ∷ [])

  pub spelled_more : (payloads : List (List ℕ)) → AreSpellings payloads (items_of payloads) → AreSpellings (payloads ++ payload ∷ []) (items_of (payloads ++ payload ∷ []))
  spelled_more payloads spelled =
      let all : items_of (payloads ++ payload ∷ []) ≡ items_of payloads ++ item.0 ∷ [] = read_more payloads ∙ ap (λ (l : List Item). items_of payloads ++ l) read in
      subst (AreSpellings (payloads ++ payload ∷ [])) (sym all) (record {
        same = ap₂ (λ (ps : List (List ℕ)) (p : List ℕ). ps ++ p ∷ []) spelled.same item.1.1 ∙ sym (map-append spell_item (items_of payloads) (item.0 ∷ []));
        fit = All-push FitsItem (items_of payloads) item.0 spelled.fit item.1.0;
      })

  pub storable_more : (before : List Item) → All IsStorable before → All IsStorable (before ++ filter_map item_of (payload ∷ []))
  storable_more before all =
      subst (λ (l : List Item). All IsStorable (before ++ l)) (sym read)
      (All-push IsStorable before item.0 all (record { fits = item.1.0; short = subst (λ (b : List ℕ). length b ≤ max_payload) item.1.1 fits.short }))

-- ---- the spelling of an item that a record can hold

module _ (item : Item) (storable : IsStorable item) (spelling : List ℕ) (is : spelling ≡ spell_item item) where
  pub fits_record : FitsRecord store_shape spelling
  fits_record = record {
    accepted = spelled_some spelling item (storable.fits, is);
    short = subst (λ (b : List ℕ). length b ≤ max_payload) (sym is) storable.short;
  }

  pub read_back : filter_map item_of (spelling ∷ []) ≡ item ∷ []
  read_back = ap (λ (o : Option Item). cons_option o []) (whole_again spelling item (storable.fits, is))

-- From what a file in segments holds to the items that a store has.
use Rattle.std.proofs.Common.{◌≡◌, ◌⊎◌, inl, inr, ℕ, ◌+◌, ◌==◌, max, List, [], ◌∷◌, ◌++◌, length, Some, None, refl, sym, ap, ◌∙◌}
use Rattle.std.specs.Prelude.{slice_index}
use Rattle.std.proofs.lemmas.List.{append-nil}
use Rattle.std.proofs.lemmas.List.Elements.{filter_map-append}
use Rattle.byte_grammar.specs.Gated.{open_gate}
use Rattle.tuple_bytes.specs.declared.header.Header.{Header}
use Rattle.tuple_bytes.specs.declared.item.Item.{Item}
use Rattle.tuple_bytes.specs.Items.{item_of}
use Rattle.history_model.specs.Stored.{items_of, stored}
use Rattle.segment_file.specs.Appended as segments
use Rattle.segment_file.specs.Append.{Standing, behind}
use Rattle.segment_file.specs.Appended.{StandsIn}
use Rattle.history_model.specs.Placing.{gate_behind}
use Rattle.store_engine.specs.Opened.{Opened, Stores, StoresOldOrNew, IsOpenOn}

-- ---- one more

-- an item behind the others
pub item_more : (payloads : List (List ℕ)) (payload : List ℕ) (item : Item) → item_of payload ≡ Some item → items_of (payloads ++ payload ∷ []) ≡ items_of payloads ++ item ∷ []
item_more payloads payload item e = filter_map-append item_of payloads (payload ∷ []) ∙ ap (λ (l : List Item). items_of payloads ++ l) (rw e refl)

pub no_item_more : (payloads : List (List ℕ)) (payload : List ℕ) → item_of payload ≡ None → items_of (payloads ++ payload ∷ []) ≡ items_of payloads
no_item_more payloads payload e = filter_map-append item_of payloads (payload ∷ []) ∙ ap (λ (l : List Item). items_of payloads ++ l) (rw e refl) ∙ append-nil (items_of payloads)

one_item : (payload : List ℕ) (item : Item) → item_of payload ≡ Some item → items_of (payload ∷ []) ≡ item ∷ []
one_item payload item e = rw e refl

module _ (h : Header) (before : List ℕ) (items : List Item) (stores : Stores h items before) (payload : List ℕ) (item : Item) (spelled : item_of payload ≡ Some item) where
  items_new : (is : List Item) → is ≡ (stored before).items ++ items_of (payload ∷ []) → is ≡ items ++ item ∷ []
  items_new is e = e ∙ ap (λ (l : List Item). l ++ items_of (payload ∷ [])) stores.items_are ∙ ap (λ (l : List Item). items ++ l) (one_item payload item spelled)

  pub stores_new : (c : List ℕ) (at : Standing) → segments.StoresNew at before payload c → Stores h (items ++ item ∷ []) c
  stores_new c at new = record {
    header_is = new.header ∙ stores.header_is;
    items_are = items_new (stored c).items new.items;
    format = new.stands.format;
  }

  -- what an append leaves
  pub stores_either : (c : List ℕ) → segments.StoresOldOrNew before payload c → StoresOldOrNew h items item c
  stores_either c left = by left.items
    where
      by : ((stored c).items ≡ (stored before).items) ⊎ ((stored c).items ≡ (stored before).items ++ items_of (payload ∷ [])) → StoresOldOrNew h items item c
      by (inl old) = inl (record { header_is = left.header ∙ stores.header_is; items_are = old ∙ stores.items_are; format = left.format ∙ stores.format })
      by (inr new) = inr (record { header_is = left.header ∙ stores.header_is; items_are = items_new (stored c).items new; format = left.format ∙ stores.format })

-- ---- where a file stands

-- two stand at the same gate of files that are as long, whether they are closed or not
pub record IsAlike (a b : Standing) : Type 0 where
  pub end : a.end ≡ b.end
  pub length_is : a.length ≡ b.length
  pub gate : a.gate_is_open ≡ b.gate_is_open

pub alike_same : (a b : Standing) → a ≡ b → IsAlike a b
alike_same a b is = record { end = ap (λ (s : Standing). s.end) is; length_is = ap (λ (s : Standing). s.length) is; gate = ap (λ (s : Standing). s.gate_is_open) is }

pub alike_stands : (a b : Standing) (x : List ℕ) → IsAlike a b → StandsIn a x → StandsIn b x
alike_stands a b x alike s = record {
  format = s.format;
  end = s.end ∙ alike.end;
  length_is = s.length_is ∙ alike.length_is;
  gate = sym alike.gate ∙ s.gate ∙ ap (λ (e : ℕ). slice_index x e == open_gate) alike.end;
}

pub alike_behind : (a b : Standing) (payload : List ℕ) → IsAlike a b → IsAlike (behind a payload) (behind b payload)
alike_behind a b payload alike = record {
  end = ap (λ (e : ℕ). gate_behind e (length payload)) alike.end;
  length_is = ap (λ (e : ℕ). max a.length (gate_behind e (length payload) + 1)) alike.end ∙ ap (λ (n : ℕ). max n (gate_behind b.end (length payload) + 1)) alike.length_is;
  gate = refl;
}

-- an open store stands in its bytes
pub stands_in : (s : Opened) (items : List Item) (bytes : List ℕ) → IsOpenOn s items bytes → StandsIn s.at bytes
stands_in s items bytes open_on = record { format = open_on.stores.format; end = open_on.end; length_is = open_on.length_is; gate = open_on.gate }

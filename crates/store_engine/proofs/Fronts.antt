-- What the head of a file says of the store of an id.
use Rattle.std.proofs.Common.{◌≡◌, ℕ, Bool, List, Option, Some, None, refl, sym, ap, subst, ◌∙◌}
use Rattle.std.specs.Option.{option_map}
use Rattle.std.specs.Prelude.{IfSome}
use Rattle.tuple_bytes.specs.declared.header.Header.{Header}
use Rattle.history_model.specs.declared.format.Format.{Format}
use Rattle.history_model.specs.declared.format.Format.TheVariants.{One, Two}
use Rattle.history_model.specs.declared.head.Front.{Front}
use Rattle.history_model.specs.Front.{header_in, format_in}
use Rattle.history_model.specs.declared.stored.Stored.{Stored}
use Rattle.history_model.specs.Stored.{front_header, format_of, found_behind, items_of, stored}
use Rattle.history_model.proofs.Fronts.{header_stored, under_some}
use Rattle.segment_file.specs.Append.{Standing}
use Rattle.chain_state.specs.Chained.{Chained, without_room}
use Rattle.store_engine.specs.declared.contents.Contents.{Contents}
use Rattle.store_engine.specs.declared.fail.StoreFail.TheVariants as fails
use Rattle.store_engine.specs.Opened.{Opened, Knows, IsOpenOn}
use Rattle.store_engine.specs.Refusals.{IsOfAnother, IsOfThis}
use Rattle.store_engine.specs.Causes.{IsNoStore}
use Rattle.store_engine.specs.Replay.{Replays, OpensAs}
use Rattle.store_engine.proofs.Taken.{chains_shown}

header_of_front : (bytes : List ℕ) (front : Option Front) (o : Option Front) → front ≡ o → header_in front ≡ front_header bytes → (stored bytes).header ≡ header_in o
header_of_front bytes front o is said = header_stored bytes ∙ sym said ∙ ap header_in is

module _ (told : Option (List ℕ)) (id : ℕ) (front : Option Front) (header : IfSome told (λ bytes. header_in front ≡ front_header bytes)) where
  pub nowhere : front ≡ None → IfSome told (λ bytes. IsNoStore id (stored bytes).header (format_of bytes) fails.NotAStore)
  nowhere is = by told header
    where
      by : (told : Option (List ℕ)) → IfSome told (λ bytes. header_in front ≡ front_header bytes) → IfSome told (λ bytes. IsOfAnother id (stored bytes).header)
      by None said = tt
      by (Some bytes) said = subst (IsOfAnother id) (sym (header_of_front bytes front None is said)) tt

  module _ (f : Front) (is : front ≡ Some f) where
    pub another : (f.header.id ≡ id → ⊥) → IfSome told (λ bytes. IsNoStore id (stored bytes).header (format_of bytes) fails.NotAStore)
    another other = by told header
      where
        by : (told : Option (List ℕ)) → IfSome told (λ bytes. header_in front ≡ front_header bytes) → IfSome told (λ bytes. IsOfAnother id (stored bytes).header)
        by None said = tt
        by (Some bytes) said = subst (IsOfAnother id) (sym (header_of_front bytes front (Some f) is said)) other

    module _ (format : IfSome told (λ bytes. format_in front ≡ format_of bytes)) where
      pub old : f.header.id ≡ id → f.format ≡ One → IfSome told (λ bytes. IsNoStore id (stored bytes).header (format_of bytes) fails.OldFormat)
      old own one = by told header format
        where
          by : (told : Option (List ℕ)) → IfSome told (λ bytes. header_in front ≡ front_header bytes) → IfSome told (λ bytes. format_in front ≡ format_of bytes)
              → IfSome told (λ bytes. IsOfThis id (stored bytes).header × (format_of bytes ≡ Some One))
          by None said told_format = tt
          by (Some bytes) said told_format = (
            subst (IsOfThis id) (sym (header_of_front bytes front (Some f) is said)) own,
            sym told_format ∙ ap format_in is ∙ ap (λ (x : Format). Some x) one,
          )

      pub opened : f.format ≡ Two → (mid : Option (List ℕ)) → mid ≡ told → (c : Contents) (chains : Option Chained) (at : Standing) → IfSome mid (λ bytes. format_of bytes ≡ Some Two → Replays f.header c chains at bytes)
          → IfSome told (OpensAs f.header c chains at)
      opened two mid same c chains at replays = by told header format (subst (λ (o : Option (List ℕ)). IfSome o (λ bytes. format_of bytes ≡ Some Two → Replays f.header c chains at bytes)) same replays)
        where
          by : (told : Option (List ℕ)) → IfSome told (λ bytes. header_in front ≡ front_header bytes) → IfSome told (λ bytes. format_in front ≡ format_of bytes)
              → IfSome told (λ bytes. format_of bytes ≡ Some Two → Replays f.header c chains at bytes) → IfSome told (OpensAs f.header c chains at)
          by None said told_format replays = tt
          by (Some bytes) said told_format replays =
              let is_two : format_of bytes ≡ Some Two = sym told_format ∙ ap format_in is ∙ ap (λ (x : Format). Some x) two in
              record { header_is = sym said ∙ ap header_in is; format_is = is_two; replays = replays is_two }

-- ---- from what was read to an open store

-- the open store of a header, of what is known of its file, and of where that stands
abbrev pub opened_as : Header → Contents → Option Chained → Standing → Bool → Opened
opened_as header known chains at is_closed = record {
  header = header;
  count = known.count;
  last = known.last;
  tables = known.tables;
  eras = known.eras;
  chains = option_map without_room chains;
  at = record at { is_closed = is_closed };
}

pub opens : (header : Header) (known : Contents) (chains : Option Chained) (at : Standing) (is_closed : Bool) (bytes : List ℕ) → OpensAs header known chains at bytes → IsOpenOn (opened_as header known chains at is_closed) (stored bytes).items bytes
opens header known chains at is_closed bytes o =
    let is = under_some bytes header o.header_is in
    let items : items_of (found_behind bytes).0 ≡ (stored bytes).items = sym (ap (λ (s : Stored). s.items) is) in
    let r = o.replays in
    record {
      stores = record { header_is = ap (λ (s : Stored). s.header) is; items_are = refl; format = o.format_is };
      end = ap (λ (s : Stored). s.end) is ∙ r.end;
      length_is = r.length_is;
      gate = r.gate;
      knows = subst (Knows (opened_as header known chains at is_closed)) items
          (record { count = r.tells.count; last = r.tells.last; tables = r.tells.tables; eras = r.tells.eras; chains = chains_shown header (items_of (found_behind bytes).0) chains r.chained });
    }

-- Appended items leave an audit one of the bytes.
use Rattle.std.proofs.Common.{◌≡◌, ℕ, ◌≤◌, List, ◌++◌, length, take, Option, Some, None, sym, ap, subst, ◌∙◌, arith}
use Rattle.std.proofs.lemmas.List.{take-append-le}
use Rattle.tuple_bytes.specs.declared.header.Header.{Header}
use Rattle.tuple_bytes.specs.declared.item.Item.{Item}
use Rattle.history_model.specs.Stored.{front_header, found_behind, items_of, stored_under, stored}
use Rattle.segment_file.specs.Places.{KeepsPlaces}
use Rattle.segment_file.proofs.Accepted.{items_count, found_accepted}
use Rattle.audit_steps.specs.declared.auditing.Auditing.{Auditing}
use Rattle.audit_steps.specs.Auditing.{AreTakenOrNone, IsUnderWay, IsAuditOf, AuditStays, read_by}

-- no more items are read than are stored
few_under : (o : Option Header) (found : List (List ℕ) × ℕ) (a : Auditing) → (stored_under o found).header ≡ Some a.header → a.read ≤ length (items_of found.0) → a.read ≤ length (stored_under o found).items
few_under (Some h) found a is few = few
few_under None found a is few = absurd (cc is)

few_read : (id : ℕ) (a : Auditing) (x : List ℕ) → IsUnderWay id x a → a.read ≤ length (stored x).items
few_read id a x u =
    let count = items_count (found_behind x).0 (found_accepted x) in
    let most = u.place.few in
    few_under (front_header x) (found_behind x) a u.header (omega (arith, count, most))

pub read_within : (id : ℕ) (a : Option Auditing) (x : List ℕ) → IsAuditOf id a x → read_by a ≤ length (stored x).items
read_within id None x is = omega arith
read_within id (Some a) x is = few_read id a x is

module _ (id : ℕ) (a : Auditing) (x c : List ℕ) (more : List Item) (u : IsUnderWay id x a) (keeps : KeepsPlaces x c) (header : (stored c).header ≡ (stored x).header) (items : (stored c).items ≡ (stored x).items ++ more) where
  front : take a.read (stored x).items ≡ take a.read (stored c).items
  front = sym (ap (take a.read) items ∙ take-append-le a.read (stored x).items more (few_read id a x u))

  stays : IsUnderWay id c a
  stays = record {
    header = header ∙ u.header;
    id_is = u.id_is;
    place = keeps.each a.read a.place u.place;
    chains = subst (λ (l : List Item). AreTakenOrNone a.header l a.chains) front u.chains;
  }

pub audit_stays : AuditStays
audit_stays id None x c more is keeps header items = tt
audit_stays id (Some a) x c more is keeps header items = stays id a x c more is keeps header items

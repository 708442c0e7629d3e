-- An audit under way, and the bytes that it is one of.
use Rattle.std.specs.Prelude.{◌≡◌, ℕ, true, false, List, ◌++◌, take, Option, Some, None, IfSome}
use Rattle.tuple_bytes.specs.declared.header.Header.{Header}
use Rattle.tuple_bytes.specs.declared.item.Item.{Item}
use Rattle.history_model.specs.History.{history}
use Rattle.history_model.specs.Stored.{stored}
use Rattle.chain_state.specs.Chained.{Chained, AreTaken, are_chained}
use Rattle.segment_file.specs.Places.{IsPlaceOf, KeepsPlaces}
use Rattle.audit_steps.specs.declared.auditing.Auditing.{Auditing}

-- the chains of these items under a header; there are none where a granule fell or was too great
abbrev pub AreTakenOrNone : Header → List Item → Option Chained → Type 0
AreTakenOrNone header taken (Some c) = AreTaken header taken c
AreTakenOrNone header taken None = are_chained (history header taken) ≡ false

-- an audit under way has read the first items of these bytes, and stands behind them
pub record IsUnderWay (id : ℕ) (x : List ℕ) (a : Auditing) : Type 0 where
  pub header : (stored x).header ≡ Some a.header
  pub id_is : a.header.id ≡ id
  pub place : IsPlaceOf a.read a.place x
  pub chains : AreTakenOrNone a.header (take a.read (stored x).items) a.chains

-- it is as new, or under way in these bytes
abbrev pub IsAuditOf : ℕ → Option Auditing → List ℕ → Type 0
IsAuditOf id None x = Unit {0}
IsAuditOf id (Some a) x = IsUnderWay id x a

-- how many items it has read
abbrev pub read_by : Option Auditing → ℕ
read_by None = 0
read_by (Some a) = a.read

-- the granules of what these bytes store don't fall, and are small enough: its chains can be taken along
abbrev pub GranulesRise : List ℕ → Type 0
GranulesRise x = IfSome (stored x).header (λ header. are_chained (history header (stored x).items) ≡ true)

-- Where items were appended, and no place was lost, it is one of the new bytes.
abbrev pub AuditStays : Type 0
AuditStays = (id : ℕ) (a : Option Auditing) (x c : List ℕ) (more : List Item) → IsAuditOf id a x → KeepsPlaces x c
    → (stored c).header ≡ (stored x).header → (stored c).items ≡ (stored x).items ++ more
    → IsAuditOf id a c

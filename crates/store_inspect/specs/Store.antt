-- What is odd about a store file, and what a caller knows of it.
use Rattle.std.specs.Prelude.{◌≡◌, ◌==◌, ℕ, ◌+◌, ◌-◌, nat_lt, Bool, true, false, not, List, [], ◌∷◌, ◌++◌, length, Option, Some, None, MatchOption}
use Rattle.tuple_bytes.specs.declared.header.Header.{Header}
use Rattle.tuple_bytes.specs.declared.item.Item.{Item}
use Rattle.history_model.specs.declared.format.Format.{Format}
use Rattle.history_model.specs.declared.format.Format.TheVariants.{One, Two}
use Rattle.history_model.specs.declared.stored.Stored.{Stored}
use Rattle.history_model.specs.Heads.{is_segmented, format_by}
use Rattle.history_model.specs.Stored.{stored}
use Rattle.history_model.specs.History.{last_moment}
use Rattle.file_findings.specs.declared.finding.Finding.{Finding}
use Rattle.file_findings.specs.declared.finding.Finding.TheVariants.{OtherId, FirstFormat, StoreAhead}
use Rattle.file_findings.specs.Along.{listed, found_along}
use Rattle.store_inspect.specs.declared.seen.StoreKnown.{StoreKnown}
use Rattle.store_inspect.specs.declared.seen.StoreSeen.{StoreSeen}
use Rattle.store_inspect.specs.Front.{headless}
use Rattle.store_inspect.specs.Runs.{trailing}
use Rattle.store_inspect.specs.Items.{eras_before, filing_of, findings_of_items}

-- the header has another id than is asked for
abbrev pub is_other : Option ℕ → Header → Bool
is_other None header = false
is_other (Some id) header = not (id == header.id)

abbrev pub is_first : Format → Bool
is_first One = true
is_first Two = false

-- the last moment is after that of the clock; a clock before the epoch is before each
abbrev pub store_ahead : ℕ → Header → ℕ → List Finding
store_ahead second header last = listed (nat_lt second (header.epoch + last)) (StoreAhead last (second - header.epoch))

-- what is odd about a file with this header
abbrev pub findings_under : Option ℕ → ℕ → Header → List ℕ → List Finding
findings_under id second header bytes =
    listed (is_other id header) (OtherId header.id) ++ listed (is_first (format_by (is_segmented bytes))) FirstFormat
    ++ trailing (format_by (is_segmented bytes)) bytes ++ findings_of_items header (stored bytes).items ++ store_ahead second header (last_moment (stored bytes).items)

abbrev pub findings_by : Option ℕ → ℕ → List ℕ → Option Header → List Finding
findings_by id second bytes None = headless bytes ∷ []
findings_by id second bytes (Some header) = findings_under id second header bytes

-- what is odd about a store, of which this id is wanted, at this second of the clock
abbrev pub findings_of_store : Option ℕ → ℕ → List ℕ → List Finding
findings_of_store id second bytes = findings_by id second bytes (stored bytes).header

-- what is known of a header and the items behind it
pub record KnowsStore (header : Header) (its : List Item) (k : StoreKnown) : Type 0 where
  pub header_is : k.header ≡ header
  pub items : k.items ≡ length its
  pub last : k.last ≡ last_moment its
  pub eras : k.eras ≡ eras_before header its
  -- how many tiles had ended at the Frontier of each filing
  pub filed : k.filed.items ≡ found_along (filing_of header) its

-- of what bytes store
pub record IsKnown (k : StoreKnown) (s : Stored) : Type 0 where
  pub header : s.header ≡ Some k.header
  pub knows : KnowsStore k.header s.items k

-- all that is odd about the bytes, and what is known of them, where they have a header
pub record IsSeen (id : Option ℕ) (second : ℕ) (bytes : List ℕ) (seen : StoreSeen) : Type 0 where
  pub findings : seen.findings.items ≡ findings_of_store id second bytes
  pub known : MatchOption seen.known ((stored bytes).header ≡ None) (λ k. IsKnown k (stored bytes))

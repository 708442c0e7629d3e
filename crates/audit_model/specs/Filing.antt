-- How what is filed stays as a history grows, and grows with its tiles.
use Rattle.std.specs.Prelude.{◌≡◌, ℕ, ◌+◌, ◌≤◌, List, [], ◌∷◌, ◌++◌, length}
use Rattle.tuple_bytes.specs.declared.header.Header.{Header}
use Rattle.tuple_bytes.specs.declared.item.Item.{Item}
use Rattle.tuple_bytes.specs.declared.item.Item.TheVariants.{Frontier}
use Rattle.tuple_bytes.specs.Spelling.{FitsHeader}
use Rattle.notary_link.specs.Batches.{Batch, IsBatch}
use Rattle.history_model.specs.History.{History, history, last_moment, MayFollow}
use Rattle.digest_model.specs.Layout.{layout, first_granule, max_granules}
use Rattle.digest_model.specs.Eras.{IsBehindTiles}
use Rattle.digest_model.specs.Spelled.{HasSpelling}
use Rattle.audit_model.specs.Names.{batch}
use Rattle.audit_model.specs.Notary.{NotaryOf}
use Rattle.audit_model.specs.Sound.{IsNotarized}

-- A notarized history stays so with an item that is not before its last moment, and that leaves its sealed tiles.
abbrev pub AddedStaysNotarized : Type 0
AddedStaysNotarized = (batches : List Batch) (id n : ℕ) (header : Header) (items : List Item) (item : Item) → FitsHeader header
    → IsNotarized batches id n (history header items)
    → MayFollow (last_moment items) item → IsBehindTiles n item
    → IsNotarized batches id n (history header (items ++ item ∷ []))

-- A frontier, of any moment, leaves what is filed.
abbrev pub FrontierStaysFiled : Type 0
FrontierStaysFiled = (batches : List Batch) (id n : ℕ) (header : Header) (items : List Item) (moment : ℕ)
    → NotaryOf batches id (history header items) n
    → NotaryOf batches id (history header (items ++ Frontier moment ∷ [])) n

-- It leaves each batch.
abbrev pub FrontierFilesSame : Type 0
FrontierFilesSame = (header : Header) (items : List Item) (moment i : ℕ)
    → batch (history header (items ++ Frontier moment ∷ [])) i ≡ batch (history header items) i

-- With the header's batch alone no tile is sealed.
abbrev pub FilingBegins : Type 0
FilingBegins = (id : ℕ) (h : History) (b : Batch) → h.header.id ≡ id → b.seals ≡ batch h 0
    → NotaryOf (b ∷ []) id h 0

-- With the batch of the next tile one tile more is sealed.
abbrev pub FilingExtends : Type 0
FilingExtends = (batches : List Batch) (id : ℕ) (h : History) (n : ℕ) (b : Batch) → NotaryOf batches id h n
    → first_granule (layout h) (n + 1) ≤ max_granules → b.seals ≡ batch h (n + 1)
    → NotaryOf (batches ++ b ∷ []) id h (n + 1)

-- Each batch may be filed.
abbrev pub BatchesMayBeFiled : Type 0
BatchesMayBeFiled = (h : History) (i : ℕ) → HasSpelling h → IsBatch (batch h i)

-- None has more seals than this: 255 eras, a chain, eleven parts, and the nodes of the first tile of a tree.
abbrev pub BatchesAreShort : Type 0
BatchesAreShort = (h : History) (i : ℕ) → HasSpelling h → length (batch h i) ≤ 2314

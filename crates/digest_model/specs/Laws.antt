-- What equal digests say, unless two inputs clash; and that digests go by the transactions.
use Rattle.std.specs.Prelude.{◌≡◌, ◌⊎◌, ℕ, ◌+◌, ◌<◌, List, [], ◌∷◌, Some}
use Rattle.std.specs.List.{All}
use Rattle.tuple_bytes.specs.declared.header.Header.{Header}
use Rattle.tuple_bytes.specs.Spelling.{spell_fields, FitsHeader}
use Rattle.history_model.specs.History.{History, txns, rows}
use Rattle.history_model.specs.StoredHistory.{IsHistory}
use Rattle.digest_model.specs.Layout.{Era, policy_of, era_at, layout, SameTiles, end_granule, part_granules}
use Rattle.digest_model.specs.Roots.{IsUnder}
use Rattle.digest_model.specs.Digests.{link_of_spelled, link_of, header_digest, header_input, era_digest, granule_digest, tile_digest, node_digest, cum}
pub use Rattle.digest_model.specs.Spelled.{HasSpelling}
use Rattle.digest_model.specs.Inputs.{Clash, era_inputs, link_inputs_of_spelled, link_inputs, cum_inputs, hashed, tile_inputs, node_inputs}

-- such is each history that a file can hold
abbrev pub HistoriesHaveSpellings : Type 0
HistoriesHaveSpellings = (h : History) → IsHistory h → HasSpelling h

-- equal header digests are of one header
abbrev pub HeadersTellApart : Type 0
HeadersTellApart = (a b : Header) → FitsHeader a → FitsHeader b
    → header_digest a ≡ header_digest b
    → (a ≡ b) ⊎ Clash (header_input a ∷ []) (header_input b ∷ [])

-- equal digests of an era are of one era
abbrev pub ErasTellApart : Type 0
ErasTellApart = (h s : History) (number : ℕ) (a b : Era) → HasSpelling h → HasSpelling s
    → era_at (policy_of h) number ≡ Some a → era_at (policy_of s) number ≡ Some b
    → era_digest h number ≡ era_digest s number
    → (a ≡ b) ⊎ Clash (era_inputs h number) (era_inputs s number)

-- equal links are of the same header fields and one list of spellings
abbrev pub LinksTellApart : Type 0
LinksTellApart = (a b : Header) (ts us : List (List ℕ))
    → link_of_spelled a ts ≡ link_of_spelled b us
    → ((spell_fields a ≡ spell_fields b) × (ts ≡ us)) ⊎ Clash (link_inputs_of_spelled a ts) (link_inputs_of_spelled b us)

-- two histories have one header and the same transactions in file order
abbrev pub IsSameHistory : History → History → Type 0
IsSameHistory h s = (h.header ≡ s.header) × (txns h.items ≡ txns s.items)

-- among what is hashed for the links of two histories, two inputs clash
abbrev pub LinkClash : History → History → Type 0
LinkClash h s = Clash (link_inputs h.header (txns h.items)) (link_inputs s.header (txns s.items))

-- equal links over all transactions are of the same history
abbrev pub StoresTellApart : Type 0
StoresTellApart = (h s : History) → HasSpelling h → HasSpelling s
    → link_of h.header (txns h.items) ≡ link_of s.header (txns s.items)
    → IsSameHistory h s ⊎ LinkClash h s

-- one header, and the same transactions in each granule below m
pub record SameBelow (h s : History) (m : ℕ) : Type 0 where
  pub header : h.header ≡ s.header
  pub rows : (g : ℕ) → g < m → rows h g ≡ rows s g

-- equal links at the end of a tile are of the same transactions up to there
abbrev pub CumsTellApart : Type 0
CumsTellApart = (h s : History) (tile : ℕ) → HasSpelling h → HasSpelling s → SameTiles (tile + 1) (layout h) (layout s)
    → cum h tile ≡ cum s tile
    → SameBelow h s (end_granule (layout h) tile) ⊎ Clash (cum_inputs h tile) (cum_inputs s tile)

-- equal digests of a granule are of the same transactions
abbrev pub GranulesTellApart : Type 0
GranulesTellApart = (h s : History) (g : ℕ) → HasSpelling h → HasSpelling s
    → granule_digest h g ≡ granule_digest s g
    → (rows h g ≡ rows s g) ⊎ Clash (hashed h g ∷ []) (hashed s g ∷ [])

-- two histories have the same transactions in each of these granules
abbrev pub SameIn : History → History → List ℕ → Type 0
SameIn h s granules = All (λ g. rows h g ≡ rows s g) granules

-- equal digests of a part of a tile are of the same transactions in each of its granules
abbrev pub TilesTellApart : Type 0
TilesTellApart = (h s : History) (tile part : ℕ) → HasSpelling h → HasSpelling s → SameTiles (tile + 1) (layout h) (layout s)
    → tile_digest h tile part ≡ tile_digest s tile part
    → SameIn h s (part_granules (layout h) tile part) ⊎ Clash (tile_inputs h tile part) (tile_inputs s tile part)

-- two histories have the same transactions in each granule below a node, in the tree over the granules from the first on
abbrev pub SameUnder : History → History → ℕ → ℕ → ℕ → Type 0
SameUnder h s first level index = (leaf : ℕ) → IsUnder level index leaf → rows h (first + leaf) ≡ rows s (first + leaf)

-- equal digests of a node are of the same transactions in each granule below it
abbrev pub NodesTellApart : Type 0
NodesTellApart = (h s : History) (first level index : ℕ) → HasSpelling h → HasSpelling s
    → node_digest h first level index ≡ node_digest s first level index
    → SameUnder h s first level index ⊎ Clash (node_inputs h first level index) (node_inputs s first level index)

-- the same transactions have the same digests
pub record SameDigests : Type 0 where
  pub granules : (h s : History) (g : ℕ) → rows h g ≡ rows s g → granule_digest h g ≡ granule_digest s g
  pub cums : (h s : History) (tile : ℕ) → SameTiles (tile + 1) (layout h) (layout s)
      → SameBelow h s (end_granule (layout h) tile) → cum h tile ≡ cum s tile
  pub tiles : (h s : History) (tile part : ℕ) → SameTiles (tile + 1) (layout h) (layout s)
      → SameIn h s (part_granules (layout h) tile part) → tile_digest h tile part ≡ tile_digest s tile part
  pub nodes : (h s : History) (first level index : ℕ)
      → SameUnder h s first level index → node_digest h first level index ≡ node_digest s first level index

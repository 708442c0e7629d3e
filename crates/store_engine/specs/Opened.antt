-- An open store, and the bytes that it stands for.
use Rattle.std.specs.Prelude.{◌≡◌, ℕ, ◌==◌, ◌⊎◌, List, ◌++◌, ◌∷◌, [], length, slice_index, Option}
use Rattle.std.specs.Option.{option_map}
use Rattle.byte_grammar.specs.Gated.{open_gate}
use Rattle.tuple_bytes.specs.declared.header.Header.{Header}
use Rattle.tuple_bytes.specs.declared.item.Item.{Item}
use Rattle.history_model.specs.History.{history, txns, last_moment}
use Rattle.digest_model.specs.Layout.{Policy, policy_of}
use Rattle.tt_table.specs.Stands.{StandsFor}
use Rattle.tt_table.specs.Tables.{TablesVersions}
use Rattle.tuple_bytes.specs.Spelling.{spell_frontier}
use Rattle.history_model.specs.Stored.{stored}
use Rattle.segment_file.specs.Append.{Standing, behind}
use Rattle.segment_file.specs.LaidOut.{Holds}
use Rattle.chain_state.specs.Chained.{Chained, with_closed}
use Rattle.store_engine.specs.Chaining.{AreChainsOf}

-- an open store, as its callers see it
pub record Opened : Type 0 where
  pub header : Header
  -- how many transactions are stored
  pub count : ℕ
  -- the greatest moment of an item, or 0
  pub last : ℕ
  pub tables : TablesVersions
  pub eras : Policy
  -- where there are any; their room is nothing that callers see, and stands as 0
  pub chains : Option Chained
  -- where the next record goes
  pub at : Standing

-- with a Frontier more
abbrev pub with_frontier : Opened → ℕ → Opened
with_frontier s moment = record s { last = moment; at = behind s.at (spell_frontier moment) }

-- with the granules below this one closed in the chains
abbrev pub closed_to : ℕ → Opened → Opened
closed_to granule s = record s { chains = option_map (with_closed granule) s.chains }

-- the count, the last moment, the tables, the eras and the chains are those of these items
pub record Knows (s : Opened) (items : List Item) : Type 0 where
  pub count : s.count ≡ length (txns items)
  pub last : s.last ≡ last_moment items
  pub tables : StandsFor s.tables (txns items)
  pub eras : s.eras ≡ policy_of (history s.header items)
  pub chains : AreChainsOf s.header items s.chains

-- the bytes store these items behind this header, in segments
abbrev pub Stores : Header → List Item → List ℕ → Type 0
Stores header items bytes = Holds header items bytes

-- they store these items, or these and one more
abbrev pub StoresOldOrNew : Header → List Item → Item → List ℕ → Type 0
StoresOldOrNew header items item c = Stores header items c ⊎ Stores header (items ++ item ∷ []) c

-- The store stands for these bytes, which store these items.
pub record IsOpenOn (s : Opened) (items : List Item) (bytes : List ℕ) : Type 0 where
  pub stores : Stores s.header items bytes
  pub end : (stored bytes).end ≡ s.at.end
  pub length_is : length bytes ≡ s.at.length
  pub gate : s.at.gate_is_open ≡ (slice_index bytes s.at.end == open_gate)
  pub knows : Knows s items

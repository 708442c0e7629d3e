-- How the chains of a store are taken from payload to payload, and from commit to commit.
use Rattle.std.specs.Prelude.{◌≡◌, ℕ, ◌*◌, ◌≤◌, max, List, Option, Some, None}
use Rattle.std.specs.Option.{option_map}
use Rattle.tuple_bytes.specs.declared.header.Header.{Header}
use Rattle.tuple_bytes.specs.declared.item.Item.{Item}
use Rattle.tuple_bytes.specs.declared.item.Item.TheVariants as items
use Rattle.history_model.specs.History.{history}
use Rattle.history_model.specs.Stored.{items_of}
use Rattle.digest_model.specs.Layout.{Policy, policy_of}
use Rattle.chain_state.specs.Chained.{Chained, history_of, AreTaken, open_of, with_chained, with_turned}

-- chains of this header and of these eras, whose open granule begins by this moment
pub record HasReached (header : Header) (eras : Policy) (last : ℕ) (c : Chained) : Type 0 where
  pub header_is : c.header ≡ header
  pub eras_are : policy_of (history_of c) ≡ eras
  pub reached : c.granule * header.width ≤ last

-- such are those that there are
abbrev pub HaveReached : Header → Policy → ℕ → Option Chained → Type 0
HaveReached header eras last chains = (c : Chained) → chains ≡ Some c → HasReached header eras last c

-- with an item more: of a Frontier nothing is kept
abbrev pub chains_with : Item → Option Chained → Option Chained
chains_with (items.Txn t) chains = option_map (with_chained t) chains
chains_with (items.Frontier moment) chains = chains
chains_with (items.Policy tile granule k algs) chains = option_map (with_turned (items.Policy tile granule k algs)) chains

-- with room for the granules below this one
abbrev pub with_room : ℕ → Chained → Chained
with_room end c = record c { room = max c.room end }

-- the chains took what these payloads spell, one after another, or one of them ended the chains
abbrev pub HaveTaken : Header → List (List ℕ) → Option Chained → Type 0
HaveTaken header payloads (Some c) = AreTaken header (items_of payloads) c
HaveTaken header payloads None = open_of (history header (items_of payloads)) ≡ None

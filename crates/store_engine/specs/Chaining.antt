-- The chains that are kept beside the tables of a store.
use Rattle.std.specs.Prelude.{◌≡◌, ◌*◌, ◌≤◌, true, false, List, Option, Some, None}
use Rattle.tuple_bytes.specs.declared.header.Header.{Header}
use Rattle.tuple_bytes.specs.declared.item.Item.{Item}
use Rattle.history_model.specs.History.{history, last_moment}
use Rattle.chain_state.specs.Chained.{Chained, IsChainOf, are_chained}

-- chains of these items: no granule is closed that reaches beyond the last moment
pub record IsChainedFor (header : Header) (items : List Item) (c : Chained) : Type 0 where
  pub chain : IsChainOf c (history header items)
  pub chained : are_chained (history header items) ≡ true
  pub reached : c.granule * header.width ≤ last_moment items

-- there are chains exactly where no granule falls and each is small enough
abbrev pub AreChainsOf : Header → List Item → Option Chained → Type 0
AreChainsOf header items (Some c) = IsChainedFor header items c
AreChainsOf header items None = are_chained (history header items) ≡ false

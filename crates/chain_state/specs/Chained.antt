-- What kept chains stand for.
use Rattle.std.specs.Prelude.{◌≡◌, ℕ, ◌*◌, ◌≤◌, length, ◌&&◌, nat_le, nat_lt, Bool, List, [], ◌∷◌, ◌++◌, fold, Option, Some, None, if◌then◌else◌, max}
use Rattle.std.specs.Option.{is_some}
use Rattle.tuple_bytes.specs.declared.header.Header.{Header}
use Rattle.tuple_bytes.specs.declared.item.Item.{Item}
use Rattle.tuple_bytes.specs.declared.item.Item.TheVariants as items
use Rattle.tuple_bytes.specs.declared.item.Txn.{Txn}
use Rattle.history_model.specs.History.{History, history, txns, granule_of, last_moment}
use Rattle.digest_model.specs.Layout.{layout, policy_of, tile_of, max_granules}

-- the transactions and policies under a header in file order, the number of the open granule, and one more than the last granule that
-- there is room for
pub record Chained : Type 0 where
  pub header : Header
  pub items : List Item
  pub granule : ℕ
  pub room : ℕ

-- the history of these items alone
abbrev pub history_of : Chained → History
history_of c = history c.header c.items

-- the chains stand for the transactions and the eras of a history
pub record IsChainOf (c : Chained) (h : History) : Type 0 where
  pub header : c.header ≡ h.header
  pub txns : txns c.items ≡ txns h.items
  pub eras : policy_of (history_of c) ≡ policy_of h

-- how many tiles have ended where the open granule begins
abbrev pub ended : Chained → ℕ
ended c = tile_of (layout (history_of c)) c.granule

-- with one transaction more, in whose granule the chains stand from then on
abbrev pub with_chained : Txn → Chained → Chained
with_chained t c = record c { items = c.items ++ items.Txn t ∷ []; granule = granule_of c.header.width t.moment }

-- with one policy more
abbrev pub with_turned : Item → Chained → Chained
with_turned item c = record c { items = c.items ++ item ∷ [] }

-- with the granules below a number closed
abbrev pub with_closed : ℕ → Chained → Chained
with_closed g c = record c { granule = max c.granule g }

-- without the room, which only the next commit needs
abbrev pub without_room : Chained → Chained
without_room c = record c { room = 0 }

-- ---- which histories have chains

-- the granule of the last transaction, unless a granule fell or is too great
abbrev pub open_after : ℕ → Option ℕ → Txn → Option ℕ
open_after width None t = None
open_after width (Some last) t =
    if nat_le last (granule_of width t.moment) && nat_lt (granule_of width t.moment) max_granules then Some (granule_of width t.moment) else None

unfoldable pub open_of : History → Option ℕ
open_of h = fold (open_after h.header.width) (Some 0) (txns h.items)

-- the granules of the transactions don't fall, and are small enough
abbrev pub are_chained : History → Bool
are_chained h = is_some (open_of h)

-- ---- going from item to item

-- the chains took a transaction, and room for it
pub record IsTaken (t : Txn) (before after : Chained) : Type 0 where
  pub value : after ≡ record (with_chained t before) { room = after.room }
  pub granule_is : open_after before.header.width (Some before.granule) t ≡ Some after.granule

-- an item was taken: of a Frontier nothing is kept
abbrev pub IsItemTaken : Item → Chained → Chained → Type 0
IsItemTaken (items.Txn t) before after = IsTaken t before after
IsItemTaken (items.Frontier moment) before after = after ≡ before
IsItemTaken (items.Policy tile granule k algs) before after = after ≡ with_turned (items.Policy tile granule k algs) before

-- its granule falls or is too great
abbrev pub IsItemRefused : Item → Chained → Type 0
IsItemRefused (items.Txn t) c = open_after c.header.width (Some c.granule) t ≡ None
IsItemRefused (items.Frontier moment) c = ⊥
IsItemRefused (items.Policy tile granule k algs) c = ⊥

-- a transaction takes two steps, another item none
abbrev pub steps_of : List Item → ℕ
steps_of taken = 2 * length (txns taken)

-- the chains of the first items
pub record AreTaken (header : Header) (taken : List Item) (c : Chained) : Type 0 where
  pub chain : IsChainOf c (history header taken)
  pub granule_is : open_of (history header taken) ≡ Some c.granule
  pub reached : c.granule * header.width ≤ last_moment taken

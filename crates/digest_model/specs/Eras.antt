-- What is known of the eras of a history.
use Rattle.std.specs.Prelude.{◌≡◌, ⊤, ℕ, ◌+◌, ◌-◌, ◌*◌, ◌^◌, ◌≤◌, List, [], ◌∷◌, ◌++◌, nat_lt, Bool, map, filter}
use Rattle.std.specs.List.{All, flat_map, range_with_len}
use Rattle.tuple_bytes.specs.declared.header.Header.{Header}
use Rattle.tuple_bytes.specs.declared.item.Item.{Item}
use Rattle.tuple_bytes.specs.declared.item.Item.TheVariants as items
use Rattle.tuple_bytes.specs.declared.item.Txn.{Txn}
use Rattle.history_model.specs.History.{History, history}
use Rattle.digest_model.specs.Layout.{Era, Layout, policy_of, layout, SameTiles, exponent, first_granule, turns, sealed_eras, era_start}

-- an item leaves the first n tiles: a policy does where its tile is a later one
abbrev pub IsBehindTiles : ℕ → Item → Type 0
IsBehindTiles n (items.Txn t) = ⊤
IsBehindTiles n (items.Frontier moment) = ⊤
IsBehindTiles n (items.Policy tile granule k algs) = n ≤ tile

-- Items that leave the first n tiles leave them where they were.
abbrev pub LaterItemsLeaveTiles : Type 0
LaterItemsLeaveTiles = (header : Header) (items more : List Item) (n : ℕ) → All (IsBehindTiles n) more
    → SameTiles n (layout (history header items)) (layout (history header (items ++ more)))

-- eras begin one at the tile of the other or behind it, the first at this tile or behind it
abbrev pub Ascends : ℕ → List Era → Type 0
Ascends from [] = Unit {0}
Ascends from (e ∷ es) = (from ≤ e.tile) × Ascends e.tile es

-- an era begins at one of the first n tiles
abbrev pub is_below : ℕ → Era → Bool
is_below n e = nat_lt e.tile n

-- the eras but the first, of which those of the first n tiles are the first ones
pub record AreFront (h : History) (n : ℕ) : Type 0 where
  pub those : sealed_eras (layout h) n ≡ filter (is_below n) (policy_of h).later
  pub rest : List Era
  pub parts : (policy_of h).later ≡ sealed_eras (layout h) n ++ rest

-- The eras of the first n tiles are those that begin there, and come before all others.
abbrev pub SealedErasComeFirst : Type 0
SealedErasComeFirst = (h : History) (n : ℕ) → AreFront h n

-- Histories with one header and the same eras of their first n tiles have these tiles alike.
abbrev pub EqualErasHaveEqualTiles : Type 0
EqualErasHaveEqualTiles = (h s : History) (n : ℕ) → h.header ≡ s.header → sealed_eras (layout h) n ≡ sealed_eras (layout s) n
    → SameTiles n (layout h) (layout s)

-- Within an era each tile has as many granules.
abbrev pub TilesOfAnEraAreEven : Type 0
TilesOfAnEraAreEven = (h : History) (tile : ℕ)
    → first_granule (layout h) tile ≡ first_granule (layout h) (era_start (layout h) tile) + (tile - era_start (layout h) tile) * 2 ^ exponent (layout h) tile

-- the policy that begins an era where it begins in a layout
abbrev pub policy_item : Layout → Era → Item
policy_item l e = items.Policy e.tile (first_granule l e.tile) e.k e.algs

-- the policies that begin the eras of the tiles from a on up to b
unfoldable pub policy_items : History → ℕ → ℕ → List Item
policy_items s a b = map (policy_item (layout s)) (flat_map (turns (layout s)) (range_with_len a (b - a)))

-- behind a history come the policies of the tiles from a on up to b of another one, and then transactions
abbrev pub restored : History → History → ℕ → ℕ → List Txn → History
restored h s a b ts = history h.header (h.items ++ (policy_items s a b ++ map items.Txn ts))

-- Behind a history that has the eras of the first a tiles of another one, and no more, these policies restore those of its first b tiles.
abbrev pub ErasAreRestored : Type 0
ErasAreRestored = (h s : History) (a b : ℕ) (ts : List Txn) → h.header ≡ s.header → a ≤ b
    → (policy_of h).later ≡ sealed_eras (layout s) a
    → (policy_of (restored h s a b ts)).later ≡ sealed_eras (layout s) b

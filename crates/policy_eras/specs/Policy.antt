-- The eras as code keeps them: each with the first granule of its tile.
use Rattle.std.specs.Prelude.{◌≡◌, ◌⊎◌, ℕ, ◌+◌, ◌<◌, ◌≤◌, ◌==◌, ◌||◌, nat_le, Bool, List, map, length, Contains, Option, Some, None}
use Rattle.std.specs.List.{All, list_any}
use Rattle.std.specs.Int.{bit_at}
use Rattle.tuple_bytes.specs.declared.item.Item.{Item}
use Rattle.tuple_bytes.specs.declared.item.Item.TheVariants as items
use Rattle.tuple_bytes.specs.Items.{item_of}
use Rattle.policy_eras.specs.declared.era.Era.{Era as Kept}
use Rattle.digest_model.specs.Layout.{Era, Policy, Layout, layout_by, era_in, first_granule, tile_of, max_granules, max_later, with_item}
use Rattle.digest_model.specs.Eras.{Ascends}

-- an era as the definitions know it
abbrev pub as_era : Kept → Era
as_era e = record { tile = e.tile; k = e.k; algs = e.algs }

-- the policy item that it is made of
abbrev pub as_item : Kept → Item
as_item e = items.Policy e.tile e.granule e.k e.algs

abbrev pub policy : Kept → List Kept → Policy
policy first later = record { first = as_era first; later = map as_era later }

-- its granule is the first one of its tile, and its exponent is small
abbrev pub IsPlaced : Policy → Kept → Type 0
IsPlaced p e = (e.granule ≡ first_granule (layout_by p) e.tile) × (e.k ≤ 10)

-- eras in order, each in its place
pub record AreEras (first : Kept) (later : List Kept) : Type 0 where
  pub begins : first.tile ≡ 0
  pub head : IsPlaced (policy first later) first
  pub each : All (IsPlaced (policy first later)) later
  pub ascend : Ascends first.tile (map as_era later)
  pub few : length later ≤ max_later

-- the last era that begins at a tile or before it
pub record IsLastAt (first : Kept) (later : List Kept) (tile : ℕ) (found : Kept) : Type 0 where
  pub value : as_era found ≡ era_in (as_era first) (map as_era later) tile
  pub from : found.tile ≤ tile
  pub known : (found ≡ first) ⊎ Contains later found

-- the last era that begins at a granule or before it: tiles go by it as long as no era that begins behind the granule has begun
pub record IsLastWithin (first : Kept) (later : List Kept) (granule : ℕ) (found : Kept) : Type 0 where
  pub from : found.granule ≤ granule
  pub known : (found ≡ first) ⊎ Contains later found
  pub rules : (tile : ℕ) → found.tile ≤ tile → All (λ e. granule < e.granule → tile < e.tile) later
      → era_in (as_era first) (map as_era later) tile ≡ as_era found

-- the first tile that ends behind the last granule: it is never sealed
abbrev pub first_past : Layout → ℕ
first_past l = tile_of l max_granules

-- ---- what is asked of eras

-- how many there are
abbrev pub count_of : Policy → ℕ
count_of p = 1 + length p.later

-- none more may begin
abbrev pub is_full : Policy → Bool
is_full p = nat_le max_later (length p.later)

-- the granules of an era's tiles are hashed: for the chains of parts, or as leaves of the tree
abbrev pub is_hashed : Era → Bool
is_hashed e = (bit_at e.algs 0 == 1) || (bit_at e.algs 1 == 1)

-- those of some era are
abbrev pub has_leaves : Policy → Bool
has_leaves p = is_hashed p.first || list_any is_hashed p.later

-- ---- an item more

abbrev pub with_found : Policy → Option Item → Policy
with_found p None = p
with_found p (Some item) = with_item p item

-- the eras with the item that a payload spells, where it spells one
abbrev pub with_payload : Policy → List ℕ → Policy
with_payload p payload = with_found p (item_of payload)

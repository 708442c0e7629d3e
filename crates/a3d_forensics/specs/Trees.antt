-- The trees over a range of tiles: one for each era, whose leaves are the granules of the era's tiles.
use Rattle.std.specs.Prelude.{ℕ, ◌+◌, ◌*◌, ◌^◌, ◌≤◌, nat_lt, List, [], ◌∷◌, length, map, filter, Option, Some, None}
use Rattle.std.specs.List.{Contains, range_with_len, sum_by}
use Rattle.history_model.specs.History.{History}
use Rattle.digest_model.specs.Layout.{Layout, layout, first_granule, sealed_eras, era_of, max_granules}
use Rattle.digest_model.specs.Roots.{roots_of}
use Rattle.audit_model.specs.Names.{planned, node_name}
use Rattle.audit_model.specs.Ranges.{granules_in}
use Rattle.audit_model.specs.Tree.{digit_count}
use Rattle.a3d_forensics.specs.declared.tree.Tree.{Tree}

-- how many of the first n tiles lie before an era
unfoldable pub tiles_before : Layout → ℕ → ℕ → ℕ
tiles_before l n era = length (filter (λ tile. nat_lt (era_of l tile) era) (range_with_len 0 n))

-- the tree over those of the first n tiles that are of an era
unfoldable pub tree_of : Layout → ℕ → ℕ → Tree
tree_of l n era = record { era = era; first = first_granule l (tiles_before l n era); leaves = granules_in (Some era) l n }

-- the eras of a range, by their numbers: that one, where one is named, else the first and those that begin at one of the first n tiles
abbrev pub eras_in : Option ℕ → Layout → ℕ → List ℕ
eras_in None l n = range_with_len 0 (length (sealed_eras l n) + 1)
eras_in (Some era) l n = era ∷ []

-- the trees of a range, one after another
unfoldable pub trees_of : Option ℕ → Layout → ℕ → List Tree
trees_of era l n = map (tree_of l n) (eras_in era l n)

-- how many roots a tree's forest has
abbrev pub root_count : Tree → ℕ
root_count tree = length (roots_of tree.leaves)

-- So many nodes are asked at most where so many granules are found: all roots, and twice the binary digits of the range's number of
-- granules for each that is found.
unfoldable pub checks_bound : Option ℕ → Layout → ℕ → ℕ → ℕ
checks_bound era l n found = sum_by root_count (trees_of era l n) + 2 * (digit_count (granules_in era l n) * found)

-- a node over leaves below this number
abbrev pub IsOver : ℕ → ℕ → ℕ → Type 0
IsOver leaves level index = (index + 1) * 2 ^ level ≤ leaves

-- each node over the leaves of a tree is planned, and all its granules lie below the last one
pub record IsTreeOf (h : History) (n : ℕ) (tree : Tree) : Type 0 where
  pub planned : (level index : ℕ) → IsOver tree.leaves level index → Contains (planned (layout h) n) (node_name tree.era level index)
  pub within : tree.first + tree.leaves ≤ max_granules

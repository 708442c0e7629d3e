-- What is filed for a history: the digests of the planned names, in batches.
use Rattle.std.specs.Prelude.{ℕ, zero, suc, ◌+◌, ◌-◌, ◌/◌, ◌%◌, ◌^◌, ◌==◌, if◌then◌else◌, List, [], ◌∷◌, ◌++◌, length, map, filter}
use Rattle.std.specs.List.{flat_map, range_with_len}
use Rattle.notary_link.specs.declared.name.Name.{Name}
use Rattle.notary_link.specs.declared.name.Name.TheVariants as names
use Rattle.notary_link.specs.declared.seal.Seal.{Seal}
use Rattle.history_model.specs.History.{History}
use Rattle.digest_model.specs.Layout.{Layout, layout, exponent, tile_size, has_tile_chains, has_tree, whole, turns, sealed_eras, era_of, leaf_start}
use Rattle.digest_model.specs.Digests.{header_input, header_digest, era_digest, era_granule, cum, tile_digest, node_digest}
use Rattle.digest_model.specs.Inputs.{era_inputs, cum_inputs, tile_inputs, node_inputs}

-- ---- names

-- the whole tile and its bit chains
unfoldable pub tile_names : Layout → ℕ → List Name
tile_names l tile = names.Tile tile whole ∷ map (λ bit. names.Tile tile bit) (range_with_len 0 (exponent l tile))

-- a node of an era's tree
abbrev pub node_name : ℕ → ℕ → ℕ → Name
node_name zero level index = names.Node level index
node_name (suc era) level index = names.EraNode (suc era) level index

-- the node of a level whose last leaf is g
abbrev pub node_ending_at : ℕ → ℕ → ℕ → Name
node_ending_at era g level = node_name era level ((g + 1) / 2 ^ level - 1)

-- the nodes whose last leaf is g, from the leaf upwards
unfoldable pub nodes_ending_at : ℕ → ℕ → List Name
nodes_ending_at era g = map (node_ending_at era g) (filter (λ level. (g + 1) % 2 ^ level == 0) (range_with_len 0 21))

-- the nodes whose last leaf is a granule of a tile: the leaves of a tree are the granules of its era, from 0 on
unfoldable pub node_names : Layout → ℕ → List Name
node_names l tile = flat_map (nodes_ending_at (era_of l tile)) (range_with_len (leaf_start l tile) (tile_size l tile))

-- the eras but the first that begin at a tile, by their numbers
unfoldable pub era_names : Layout → ℕ → List Name
era_names l tile = map names.Era (range_with_len (length (sealed_eras l tile) + 1) (length (turns l tile)))

-- what a tile adds besides its eras: its chain, then its parts, then its nodes
unfoldable pub tile_seals : Layout → ℕ → List Name
tile_seals l tile =
    names.Cum tile ∷ ((if has_tile_chains l tile then tile_names l tile else []) ++ (if has_tree l tile then node_names l tile else []))

-- the names that a tile adds: the eras that begin there come first
unfoldable pub sealed_names : Layout → ℕ → List Name
sealed_names l tile = era_names l tile ++ tile_seals l tile

-- the names of a batch: first the header's alone, and then those of one tile after the other
unfoldable pub batch_names : Layout → ℕ → List Name
batch_names l zero = names.Header ∷ []
batch_names l (suc tile) = sealed_names l tile

-- the planned names for n sealed tiles
unfoldable pub planned : Layout → ℕ → List Name
planned l n = flat_map (batch_names l) (range_with_len 0 (n + 1))

-- ---- digests

-- the digest that a name stands for: a node by its era's granules, counted from the era's first one
unfoldable pub digest : History → Name → List ℕ
digest h names.Header = header_digest h.header
digest h (names.Cum tile) = cum h tile
digest h (names.Tile tile part) = tile_digest h tile part
digest h (names.Node level index) = node_digest h 0 level index
digest h (names.Era era) = era_digest h era
digest h (names.EraNode era level index) = node_digest h (era_granule h era) level index

abbrev pub seal : History → Name → Seal
seal h name = record { name = name; digest = digest h name }

-- the seals that are filed as batch i
unfoldable pub batch : History → ℕ → List Seal
batch h i = map (seal h) (batch_names (layout h) i)

-- ---- what is hashed

-- all that is hashed for one digest
unfoldable pub inputs_of : History → Name → List (List ℕ)
inputs_of h names.Header = header_input h.header ∷ []
inputs_of h (names.Cum tile) = cum_inputs h tile
inputs_of h (names.Tile tile part) = tile_inputs h tile part
inputs_of h (names.Node level index) = node_inputs h 0 level index
inputs_of h (names.Era era) = era_inputs h era
inputs_of h (names.EraNode era level index) = node_inputs h (era_granule h era) level index

-- all that is hashed for the planned names
unfoldable pub inputs : History → ℕ → List (List ℕ)
inputs h n = flat_map (inputs_of h) (planned (layout h) n)

-- The chains of a tile.
use Rattle.std.specs.Prelude.{ℕ, Bool}
use Rattle.digest_model.specs.Layout.{Layout, has_tile_chains, has_tree}
use Rattle.a3d_forensics.specs.declared.chains.Chains.{Chains}
use Rattle.a3d_forensics.specs.declared.chains.Chains.TheVariants.{Tiles, Tree}

-- a tile has them
abbrev pub has_of : Chains → Layout → ℕ → Bool
has_of Tiles l tile = has_tile_chains l tile
has_of Tree l tile = has_tree l tile

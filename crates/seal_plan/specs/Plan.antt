-- What a plan stands for: a history, and the number of its tiles whose digests are planned.
use Rattle.std.specs.Prelude.{◌≡◌, ◌<◌, ◌≤◌, ℕ, Bool, true}
use Rattle.tuple_bytes.specs.Spelling.{FitsHeader}
use Rattle.digest_model.specs.Layout.{Layout, Policy, policy_of, layout, first_granule, max_granules}
pub use Rattle.tile_seals.specs.Kept.{Planned, planned_of}

-- the tiles lie within a store, and these are its eras
pub record IsScope (p : Planned) (eras : Policy) : Type 0 where
  pub fits : FitsHeader p.history.header
  pub within : first_granule (layout p.history) p.tiles ≤ max_granules
  pub policy : eras ≡ policy_of p.history

-- one of the first tiles has this
abbrev pub SomeTile : (Layout → ℕ → Bool) → Layout → ℕ → Type 0
SomeTile has l tiles = (tile : ℕ) × (tile < tiles) × (has l tile ≡ true)

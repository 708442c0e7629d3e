-- What an iterator over roots has left.
use Rattle.std.specs.Prelude.{ℕ, List, map, filter}
use Rattle.digest_model.specs.Roots.{root_at, has_root_at, down_from}

-- those of levels below the given one
abbrev pub roots_left : ℕ → ℕ → List (ℕ × ℕ)
roots_left granules level = map (root_at granules) (filter (has_root_at granules) (down_from level))

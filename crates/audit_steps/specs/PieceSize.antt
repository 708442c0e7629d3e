-- How much a piece of an audit reads.
use Rattle.std.specs.Prelude.{ℕ}

-- how many items a piece reads at most
abbrev pub piece : ℕ
piece = 256

-- How much is taken of an input.
use Rattle.std.specs.Prelude.{ℕ}

-- the most bytes that are taken in all
abbrev pub input_limit : ℕ
input_limit = 67108864

-- the most bytes that are taken at once
abbrev pub piece_limit : ℕ
piece_limit = 4096

-- What a count begins with.
use Rattle.std.specs.Prelude.{◌≡◌, ℕ, ◌<◌}
use Rattle.std.specs.declared.sync.ledger.Blank.{Blank}

-- the blank is of the ledger with this name and so many parts, and there is one
abbrev pub IsBlankOf : ℕ → ℕ → Blank → Type 0
IsBlankOf name parts blank = (blank.name ≡ name) × (blank.parts ≡ parts) × (0 < parts)

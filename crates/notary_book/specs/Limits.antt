-- How much a book holds.
use Rattle.std.specs.Prelude.{ℕ}
use Rattle.notary_link.specs.declared.notary.NotaryLimits.{NotaryLimits}

abbrev pub max_seals : ℕ
max_seals = 16777216

abbrev pub max_marks : ℕ
max_marks = 65536

-- how much a book holds in all
abbrev pub book_limits : NotaryLimits
book_limits = record { seals = max_seals; marks = max_marks }

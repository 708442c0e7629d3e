-- What writing an evidence file needs, and when it is refused.
use Rattle.std.specs.Prelude.{ℕ, ◌+◌, ◌<◌, ◌≤◌, ◌^◌, min, List, length, Option, Some, None}
use Rattle.std.specs.List.{All}
use Rattle.tuple_bytes.specs.Limits.{max_file}
use Rattle.digest_model.specs.Plain.{IsShort}
use Rattle.evidence_file.specs.declared.entry.Entry.{Entry}
use Rattle.evidence_file.specs.declared.evidence.Evidence.{Evidence}
use Rattle.evidence_file.specs.Evidence.{spell_evidence}

-- its count and the lengths in it fit four bytes
abbrev pub HasLengths : List (List ℕ) → Type 0
HasLengths ts = (length ts < 2 ^ 32) × All IsShort ts

abbrev pub SecondHasLengths : Option (List (List ℕ)) → Type 0
SecondHasLengths None = Unit {0}
SecondHasLengths (Some ts) = HasLengths ts

pub record EntryHasLengths (e : Entry) : Type 0 where
  pub shown : HasLengths e.shown
  pub original : SecondHasLengths e.original

-- a file may not have so many bytes
abbrev pub IsTooLong : Evidence → Type 0
IsTooLong e = max_file ≤ length (spell_evidence e)

-- so many bytes behind others, counted up to the limit of a file
abbrev pub counted_on : ℕ → ℕ → ℕ
counted_on start more = min max_file (start + more)

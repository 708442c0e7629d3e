-- What is odd about a file without a header.
use Rattle.std.specs.Prelude.{ℕ, zero, suc, ◌+◌, Bool, List, [], ◌∷◌, ◌++◌, length, take, drop, is_some, if◌then◌else◌}
use Rattle.tuple_bytes.specs.declared.header.Header.{Header}
use Rattle.tuple_bytes.specs.Spelling.{spell_header}
use Rattle.txn_journal.specs.Append.{closed_gate}
use Rattle.txn_journal.specs.Create.{is_free}
use Rattle.history_model.specs.Stored.{front_header, header_length}
use Rattle.file_findings.specs.declared.finding.Finding.{Finding}
use Rattle.file_findings.specs.declared.finding.Finding.TheVariants.{NoStore, DamagedFront}

-- the header of the least fields
abbrev pub least : Header
least = record { id = 0; epoch = 0; width = 1; k = 0; algs = 0 }

-- the file of that header without a record
abbrev pub least_file : List ℕ
least_file = spell_header least ++ closed_gate ∷ []

-- some header of either format begins with these bytes: the least fields make one of them
abbrev pub may_begin : List ℕ → Bool
may_begin front = is_some (front_header (front ++ drop (length front) least_file))

-- the first number from n on that fails; the one after so many, if none does
abbrev pub first_not : (ℕ → Bool) → ℕ → ℕ → ℕ
first_not passes n zero = n
first_not passes n (suc more) = if passes n then first_not passes (n + 1) more else n

-- the first byte with which no header begins
abbrev pub wrong_byte : List ℕ → ℕ
wrong_byte front = first_not (λ i. may_begin (take (i + 1) front)) 0 (length front)

-- a device on which a store may be made, or a damaged one
abbrev pub headless : List ℕ → Finding
headless bytes = if is_free bytes then NoStore else DamagedFront (wrong_byte (take header_length bytes))

-- Whether the entries of a book follow one another, and whose they are. Entries are counted from 1.
use Rattle.std.specs.Prelude.{ℕ, ◌+◌, ◌==◌, nat_lt, not, if◌then◌else◌, List, [], ◌∷◌, length, take, Option, Some, None}
use Rattle.notary_link.specs.Notary.{Call, file, note}
use Rattle.file_findings.specs.declared.finding.Finding.{Finding}
use Rattle.file_findings.specs.declared.finding.Finding.TheVariants.{DamagedList, OtherId, BookAhead}
use Rattle.file_findings.specs.Along.{listed, found_along}
use Rattle.book_inspect.specs.Entries.{batches_of, marks_of, latest}

abbrev pub id_of : Call → ℕ
id_of (file id index batch) = id
id_of (note id mark) = id

-- that of the first entry
abbrev pub first_id : List Call → Option ℕ
first_id [] = None
first_id (call ∷ calls) = Some (id_of call)

-- ---- one after another

-- a batch of another index than the number of those of its id before it
abbrev pub out_of_turn : List Call → Call → List Finding
out_of_turn before (file id index batch) = listed (not (index == length (batches_of id before))) (DamagedList (length before + 1))
out_of_turn before (note id mark) = []

abbrev pub first_one : List Finding → List Finding
first_one found = take 1 found

-- the first such batch
abbrev pub damaged_list : List Call → List Finding
damaged_list calls = first_one (found_along out_of_turn calls)

-- ---- of another store

-- the first entry's id, where there are entries, and none under this id
abbrev pub foreign : Option ℕ → ℕ → List Finding
foreign None own = []
foreign (Some id) own = listed (own == 0) (OtherId id)

abbrev pub other_id : ℕ → List Call → List Finding
other_id id calls = foreign (first_id calls) (length (batches_of id calls) + length (marks_of id calls))

-- ---- the clock

abbrev pub ahead : ℕ → ℕ → List Finding
ahead last second = listed (nat_lt second last) (BookAhead last second)

-- the latest second under the id is after that of the clock
abbrev pub book_ahead : ℕ → ℕ → List Call → List Finding
book_ahead id second calls = ahead (latest id calls) second

-- What is odd about the entries of a book under an id, each of which stands after those before it. Entries and marks are counted from 1, batches from 0.
use Rattle.std.specs.Prelude.{ℕ, zero, suc, ◌+◌, ◌-◌, ◌==◌, nat_lt, nat_le, max, fold, map, filter, drop, Bool, true, false, not, ◌&&◌, ◌||◌, List, [], ◌∷◌, ◌++◌, length}
use Rattle.std.specs.List.{list_any}
use Rattle.notary_link.specs.declared.mark.Mark.{Mark}
use Rattle.notary_link.specs.declared.mark.Outcome.{Outcome}
use Rattle.notary_link.specs.declared.mark.Outcome.TheVariants.{Clean, Altered, HeaderAltered}
use Rattle.notary_link.specs.declared.name.Name.{Name}
use Rattle.notary_link.specs.declared.name.Name.TheVariants.{Header, Cum}
use Rattle.notary_link.specs.Batches.{Batch, same_name}
use Rattle.notary_link.specs.Notary.{Call, file, note}
use Rattle.notary_book.specs.Books.{lists_of}
use Rattle.file_findings.specs.declared.finding.Finding.{Finding}
use Rattle.file_findings.specs.declared.finding.Finding.TheVariants.{SealMissing, MarkOver, SecondsFall, AlteredMark}
use Rattle.file_findings.specs.Along.{listed, found_along}

-- the batches and the marks under an id
abbrev pub batches_of : ℕ → List Call → List Batch
batches_of id calls = (lists_of calls).batches id

abbrev pub marks_of : ℕ → List Call → List Mark
marks_of id calls = (lists_of calls).marks id

-- how many tiles are sealed: the first batch is the header's, and each later one a tile's
abbrev pub sealed_of : ℕ → List Call → ℕ
sealed_of id calls = length (batches_of id calls) - 1

-- ---- digests

-- the digest that each batch of an index has: that of the header, and the chain up to the end of the tile before
abbrev pub own_name : ℕ → Name
own_name zero = Header
own_name (suc tile) = Cum tile

abbrev pub has_own_seal : ℕ → Batch → Bool
has_own_seal index batch = list_any (λ seal. same_name seal.name (own_name index)) batch.seals

-- a batch lacks it
abbrev pub seal_missing : ℕ → List Call → Call → List Finding
seal_missing id before (file i index batch) = listed ((i == id) && not (has_own_seal (length (batches_of id before)) batch)) (SealMissing (length (batches_of id before)))
seal_missing id before (note i mark) = []

-- ---- marks

-- a first bad tile that isn't among so many
abbrev pub is_other_tile : ℕ → Outcome → Bool
is_other_tile tiles Clean = false
is_other_tile tiles (Altered first_bad) = nat_le tiles first_bad
is_other_tile tiles HeaderAltered = false

-- a mark is over more tiles than were sealed before it, or its first bad tile is none of its tiles
abbrev pub mark_over : ℕ → List Call → Call → List Finding
mark_over id before (file i index batch) = []
mark_over id before (note i mark) = listed ((i == id) && (nat_lt (sealed_of id before) mark.tiles || is_other_tile mark.tiles mark.outcome)) (MarkOver (length (marks_of id before) + 1) mark.tiles (sealed_of id before))

abbrev pub is_altered : Outcome → Bool
is_altered Clean = false
is_altered (Altered first_bad) = true
is_altered HeaderAltered = true

-- those of the marks that say altered
abbrev pub altered_of : List Mark → List Mark
altered_of marks = filter (λ mark. is_altered mark.outcome) marks

-- such a mark, with how many there are up to it
abbrev pub altered_mark : ℕ → List Call → Call → List Finding
altered_mark id before (file i index batch) = []
altered_mark id before (note i mark) = listed ((i == id) && is_altered mark.outcome) (AlteredMark (length (marks_of id before) + 1) mark.moment (length (altered_of (marks_of id before)) + 1))

-- the last one alone
abbrev pub last_one : List Finding → List Finding
last_one found = drop (length found - 1) found

-- ---- seconds

-- the latest second of batches, and of entries of either kind
abbrev pub latest_filed : ℕ → List Call → ℕ
latest_filed id calls = fold max 0 (map (λ b. b.moment) (batches_of id calls))

abbrev pub latest_marked : ℕ → List Call → ℕ
latest_marked id calls = fold max 0 (map (λ m. m.moment) (marks_of id calls))

abbrev pub latest : ℕ → List Call → ℕ
latest id calls = max (latest_filed id calls) (latest_marked id calls)

-- an entry has an earlier second than one before it. A filing may go by the store's last moment, which lies before the clock's that a mark has
abbrev pub seconds_fall : ℕ → List Call → Call → List Finding
seconds_fall id before (file i index batch) = listed ((i == id) && nat_lt batch.moment (latest_filed id before)) (SecondsFall (length before + 1) (latest_filed id before) batch.moment)
seconds_fall id before (note i mark) = listed ((i == id) && nat_lt mark.moment (latest id before)) (SecondsFall (length before + 1) (latest id before) mark.moment)

-- ---- all

-- what is odd about the entries under an id: kind by kind
abbrev pub findings_of_entries : ℕ → List Call → List Finding
findings_of_entries id calls =
    found_along (seal_missing id) calls ++ (found_along (mark_over id) calls ++ (found_along (seconds_fall id) calls ++ last_one (found_along (altered_mark id) calls)))

-- How several books stand to each other, by their batches and marks under an id.
use Rattle.std.specs.Prelude.{ℕ, ◌+◌, ◌-◌, ◌/◌, ◌==◌, ◌&&◌, nat_eq, nat_lt, not, if◌then◌else◌, Bool, true, false, List, [], ◌∷◌, ◌++◌, filter, length, count_by, Option, Some, None}
use Rattle.std.specs.Cmp.Lexicographic.{pointwise}
use Rattle.std.specs.List.{find, filter_map, slice_get}
use Rattle.notary_link.specs.Notary.{Call, file, note}
use Rattle.notary_book.specs.Calls.{call_of}
use Rattle.file_findings.specs.declared.finding.Finding.{Finding}
use Rattle.file_findings.specs.declared.finding.Finding.TheVariants.{BookDiffers, BookBehind}
use Rattle.file_findings.specs.declared.finding.Device.TheVariants.{BookOf}
use Rattle.file_findings.specs.declared.finding.Found.{Found}
use Rattle.file_findings.specs.Along.{listed, found_along}
use Rattle.file_findings.specs.Placed.{placed}
use Rattle.book_inspect.specs.declared.book.BookSeen.{BookSeen}
use Rattle.book_inspect.specs.declared.copies.Lists.{Lists}
use Rattle.book_inspect.specs.declared.copies.Own.{Own}
use Rattle.book_inspect.specs.declared.copies.Own.TheVariants.{Batch, Mark, Neither}

-- ---- lists

-- what an entry is under an id
abbrev pub own_of : ℕ → Option Call → Own
own_of id None = Neither
own_of id (Some (file i index batch)) = if i == id then Batch else Neither
own_of id (Some (note i mark)) = if i == id then Mark else Neither

abbrev pub is_batch : Own → Bool
is_batch Batch = true
is_batch Mark = false
is_batch Neither = false

abbrev pub is_mark : Own → Bool
is_mark Batch = false
is_mark Mark = true
is_mark Neither = false

-- what a payload spells under an id
abbrev pub own_in : ℕ → List ℕ → Own
own_in id payload = own_of id (call_of payload)

-- the batches and the marks under an id, as they are spelled
abbrev pub filed_of : ℕ → List (List ℕ) → List (List ℕ)
filed_of id payloads = filter (λ payload. is_batch (own_in id payload)) payloads

abbrev pub noted_of : ℕ → List (List ℕ) → List (List ℕ)
noted_of id payloads = filter (λ payload. is_mark (own_in id payload)) payloads

abbrev pub lists_by : ℕ → List (List ℕ) → Lists
lists_by id payloads = record { filed = filed_of id payloads; noted = noted_of id payloads }

abbrev pub same_list : List (List ℕ) → List (List ℕ) → Bool
same_list xs ys = pointwise (pointwise nat_eq) xs ys

abbrev pub same_lists : Lists → Lists → Bool
same_lists a b = same_list a.filed b.filed && same_list a.noted b.noted

-- ---- what a book is held against

-- more than half have these lists
abbrev pub is_most : List Lists → Lists → Bool
is_most all l = nat_lt (length all / 2) (count_by (same_lists l) all)

abbrev pub or_other : Option Lists → List Lists → Lists → Option Lists
or_other (Some most) all own = Some most
or_other None all own = find (λ l. not (same_lists own l)) all

-- the lists that more than half have; where there are none, the first that are others than its own
abbrev pub other_for : List Lists → Lists → Option Lists
other_for all own = or_other (find (is_most all) all) all own

-- ---- what is told

abbrev pub is_same : Option (List ℕ) → List ℕ → Bool
is_same None payload = false
is_same (Some other) payload = pointwise nat_eq other payload

abbrev pub apart_by : Own → Lists → ℕ → ℕ → ℕ → List ℕ → List Finding
apart_by Batch other entry batches marks payload = listed (not (is_same (slice_get other.filed batches) payload)) (BookDiffers entry)
apart_by Mark other entry batches marks payload = listed (not (is_same (slice_get other.noted marks) payload)) (BookDiffers entry)
apart_by Neither other entry batches marks payload = []

-- an entry is not the other's batch or mark of the same number
abbrev pub apart : ℕ → Lists → List (List ℕ) → List ℕ → List Finding
apart id other before payload = apart_by (own_in id payload) other (length before + 1) (length (filed_of id before)) (length (noted_of id before)) payload

-- it lacks some of the other's
abbrev pub behind : Lists → Lists → List Finding
behind own other = listed (not (same_lists own other)) (BookBehind (length own.filed - 1) (length other.filed - 1))

-- the first entry apart, or where none is, how far it is behind
abbrev pub first_or_behind : List Finding → List Finding → List Finding
first_or_behind [] more = more
first_or_behind (found ∷ others) more = found ∷ []

abbrev pub held_against : ℕ → List (List ℕ) → Option Lists → List Finding
held_against id payloads None = []
held_against id payloads (Some other) = first_or_behind (found_along (apart id other) payloads) (behind (lists_by id payloads) other)

-- ---- of all books

abbrev pub lists_seen : ℕ → BookSeen → Option Lists
lists_seen id b = if b.is_book then Some (lists_by id b.payloads) else None

abbrev pub findings_of_copy : ℕ → List Lists → BookSeen → List Finding
findings_of_copy id all b = if b.is_book then held_against id b.payloads (other_for all (lists_by id b.payloads)) else []

-- of a book that stands after those before it
abbrev pub copy_after : ℕ → List Lists → List BookSeen → BookSeen → List Found
copy_after id all before b = placed (BookOf (length before + 1)) (findings_of_copy id all b)

-- what is odd about several books. Those without a head are compared with none
abbrev pub copies : ℕ → List BookSeen → List Found
copies id books = if nat_lt 1 (length books) then found_along (copy_after id (filter_map (lists_seen id) books)) books else []

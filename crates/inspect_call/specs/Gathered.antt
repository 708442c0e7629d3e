-- All that is odd about a store and its books, each at its device.
use Rattle.std.specs.Prelude.{ℕ, ◌+◌, ◌-◌, ◌^◌, ◌==◌, nat_lt, min, max, fold, map, unwrap_or, if◌then◌else◌, Bool, true, List, [], ◌∷◌, ◌++◌, length, Option, Some, None}
use Rattle.std.specs.List.{list_any}
use Rattle.notary_book.specs.Books.{calls_in}
use Rattle.file_findings.specs.declared.finding.Finding.{Finding}
use Rattle.file_findings.specs.declared.finding.Finding.TheVariants.{NoStore, LostStore}
use Rattle.file_findings.specs.declared.finding.Device.{Device}
use Rattle.file_findings.specs.declared.finding.Device.TheVariants.{Store, Book, BookOf}
use Rattle.file_findings.specs.declared.finding.Found.{Found}
use Rattle.file_findings.specs.Along.{found_along}
use Rattle.file_findings.specs.Placed.{placed}
use Rattle.store_inspect.specs.declared.seen.StoreKnown.{StoreKnown}
use Rattle.store_inspect.specs.declared.seen.StoreSeen.{StoreSeen}
use Rattle.book_inspect.specs.declared.book.BookSeen.{BookSeen}
use Rattle.book_inspect.specs.Copies.{copies}
use Rattle.book_inspect.specs.Order.{first_id}
use Rattle.inspect_call.specs.Both.{sealed_by, store_behind, of_both}

-- ---- the store

-- nothing is known of a store that isn't named, or has no header
abbrev pub known_of : Option StoreSeen → Option StoreKnown
known_of None = None
known_of (Some s) = s.known

-- a book has a batch under the id: so a store that is missing was there
abbrev pub is_filed : List BookSeen → Bool
is_filed books = list_any (λ b. nat_lt 0 b.batches) books

abbrev pub judged : Bool → Finding → Finding
judged true NoStore = LostStore
judged lost finding = finding

-- how many tiles the book has sealed that sealed most
abbrev pub most_sealed : List BookSeen → ℕ
most_sealed books = fold max 0 (map sealed_by books)

abbrev pub behind_by : Option StoreKnown → ℕ → List Finding
behind_by None sealed = []
behind_by (Some k) sealed = store_behind k sealed

abbrev pub store_findings : Option StoreSeen → List BookSeen → List Finding
store_findings None books = []
store_findings (Some s) books = map (judged (is_filed books)) s.findings.items ++ behind_by s.known (most_sealed books)

-- ---- the books

abbrev pub with_known : Option StoreKnown → ℕ → BookSeen → List Finding
with_known None id b = []
with_known (Some k) id b = if b.is_book then of_both k id b else []

-- several books are told apart by their numbers, from 1
abbrev pub device_for : ℕ → ℕ → Device
device_for count number = if count == 1 then Book else BookOf number

-- of a book that stands after those before it
abbrev pub book_after : Option StoreKnown → ℕ → ℕ → List BookSeen → BookSeen → List Found
book_after known id count before b = placed (device_for count (length before + 1)) (b.findings.items ++ with_known known id b)

-- ---- all

abbrev pub gathered : ℕ → Option StoreSeen → List BookSeen → List Found
gathered id store books = placed Store (store_findings store books) ++ (found_along (book_after (known_of store) id (length books)) books ++ copies id books)

abbrev pub items_in : Option StoreKnown → ℕ
items_in None = 0
items_in (Some k) = k.items

-- how many entries the books have, as far as a number of 64 bits goes
abbrev pub entries_in : List BookSeen → ℕ
entries_in books = fold (λ n b. min (n + b.entries) (2 ^ 64 - 1)) 0 books

-- ---- the id

-- that of the first entry of the first book that has one, or 0
abbrev pub first_among : List (List (List ℕ)) → ℕ
first_among [] = 0
first_among (payloads ∷ others) = unwrap_or (first_id (calls_in payloads)) (first_among others)

abbrev pub id_by : Option StoreKnown → List (List (List ℕ)) → ℕ
id_by None books = first_among books
id_by (Some k) books = k.header.id

-- the id that is asked for, else that of the store, else that of the books
abbrev pub id_for : Option ℕ → Option StoreKnown → List (List (List ℕ)) → ℕ
id_for None known books = id_by known books
id_for (Some id) known books = id

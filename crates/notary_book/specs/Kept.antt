-- What a book keeps in memory, and what that stands for.
use Rattle.std.specs.Prelude.{◌≡◌, ◌==◌, ◌≤◌, ◌<◌, ◌+◌, ◌*◌, ℕ, Bool, true, false, List, [], ◌++◌, length, slice_index, Option, None, Some, is_some, IfSome}
use Rattle.disk_words.specs.Disk.{State, Only}
use Rattle.notary_link.specs.Notary.{Call, seals_in_all, marks_in_all}
use Rattle.notary_link.specs.Shelves.{StandForLists}
use Rattle.byte_grammar.specs.Gated.{open_gate}
use Rattle.txn_journal.specs.Held.{Held, Standing, StandsIn, held_by}
use Rattle.txn_journal.specs.Create.{is_free}
use Rattle.notary_book.specs.declared.kept.Kept.{Kept}
use Rattle.notary_book.specs.declared.pages.Pages.{Pages}
use Rattle.notary_book.specs.Calls.{call_of}
use Rattle.notary_book.specs.Spelling.{Spells}
use Rattle.notary_book.specs.Books.{lists_of, all_next, is_book_head, book_shape, calls_in, told_by}

-- the pages have what stands after these calls
pub record StandsFor (calls : List Call) (pages : Pages) : Type 0 where
  pub shelves_are : StandForLists (lists_of calls) pages.shelves
  pub seals_are : pages.seals ≡ seals_in_all (lists_of calls)
  pub marks_are : pages.marks ≡ marks_in_all (lists_of calls)

-- these calls were read, and the pages have what stands after them
pub record IsRead (calls : List Call) (pages : Pages) : Type 0 where
  pub next : all_next [] calls ≡ true
  pub stands : StandsFor calls pages

-- more calls were read, or one of them is not next
abbrev pub ReadsOn : List Call → List Call → Bool → Pages → Type 0
ReadsOn calls more true pages = IsRead (calls ++ more) pages
ReadsOn calls more false pages = all_next [] (calls ++ more) ≡ false

-- all of these calls were read, or one of them is not next
abbrev pub IsReadOf : List Call → Option Pages → Type 0
IsReadOf calls None = all_next [] calls ≡ false
IsReadOf calls (Some pages) = IsRead calls pages

-- ---- the file

-- a journal stands in the file of these calls
pub record Stores (calls : List Call) (at : Standing) (bytes : List ℕ) : Type 0 where
  pub held : Held
  pub stands : StandsIn is_book_head book_shape at held bytes
  pub calls_are : calls_in held.payloads ≡ calls
  pub next : all_next [] calls ≡ true

-- the same, or there is no call, and the file is still to be made
abbrev pub IsFileOf : List Call → Option Standing → List ℕ → Type 0
IsFileOf calls None bytes = (calls ≡ []) × (is_free bytes ≡ true)
IsFileOf calls (Some at) bytes = Stores calls at bytes

-- where a journal is kept, it takes more
abbrev pub IsOpen : Option Standing → Type 0
IsOpen None = Unit {0}
IsOpen (Some at) = at.is_closed ≡ false

-- the place of the gate at which the next record goes; where the file is still to be made, behind its head
abbrev pub next_gate : Option Standing → ℕ
next_gate None = 64
next_gate (Some at) = at.end

-- the records up to it take at most 70 bytes for each seal and 31 for each mark
abbrev pub IsShort : Option Standing → Pages → Type 0
IsShort at pages = next_gate at ≤ 64 + (70 * pages.seals + 31 * pages.marks)

-- behind a payload more, the next gate is below the limit of the file
abbrev pub HasPlace : Option Standing → List ℕ → Type 0
HasPlace at payload = next_gate at + 5 + length payload < 2147483648

-- a payload that says a call is that call's spelling
abbrev pub IsSpelled : List ℕ → Type 0
IsSpelled payload = (call : Call) → call_of payload ≡ Some call → Spells call payload

-- what is kept stands for what reads give, where that is told
pub record Holds (reads : Option (List ℕ)) (kept : Kept) : Type 0 where
  pub calls : List Call
  pub stands : StandsFor calls kept.pages
  pub in_file : IfSome reads (IsFileOf calls kept.journal)
  pub short : IfSome reads (λ bytes. IsShort kept.journal kept.pages)
  pub is_open : IsOpen kept.journal

-- what was read, or the bytes are no book
abbrev pub IsReadFrom : Option (List ℕ) → Option Kept → Type 0
IsReadFrom reads None = IfSome reads (λ bytes. told_by bytes ≡ None)
IsReadFrom reads (Some kept) = Holds reads kept

-- what reads give is the only image
abbrev pub IsSettled : State → Type 0
IsSettled s = IfSome s.reads (λ bytes. Only bytes s)

-- ---- the same, of the bytes alone

-- the calls that the payloads of a file spell
abbrev pub calls_held : Option Held → List Call
calls_held None = []
calls_held (Some held) = calls_in held.payloads

abbrev pub calls_told : List ℕ → List Call
calls_told bytes = calls_held (held_by is_book_head book_shape bytes)

-- the place of the gate behind them
abbrev pub end_held : Option Held → ℕ
end_held None = 0
end_held (Some held) = held.end

-- a journal stands at that gate
pub record StandsAt (bytes : List ℕ) (at : Standing) : Type 0 where
  pub is_held : is_some (held_by is_book_head book_shape bytes) ≡ true
  pub end : end_held (held_by is_book_head book_shape bytes) ≡ at.end
  pub gate : at.gate_is_open ≡ (slice_index bytes at.end == open_gate)
  pub next : all_next [] (calls_told bytes) ≡ true

-- what is kept is what these bytes say
pub record IsKeptOf (bytes : List ℕ) (kept : Kept) : Type 0 where
  pub stands : StandsFor (calls_told bytes) kept.pages
  pub before : kept.journal ≡ None → is_free bytes ≡ true
  pub behind : (at : Standing) → kept.journal ≡ Some at → StandsAt bytes at
  pub short : IsShort kept.journal kept.pages

-- where something is kept, and what reads give is told
abbrev pub KeepsOf : Option (List ℕ) → Option Kept → Type 0
KeepsOf reads kept = (k : Kept) (bytes : List ℕ) → kept ≡ Some k → reads ≡ Some bytes → IsKeptOf bytes k

-- and it is the only image
abbrev pub SettledOf : State → Option Kept → Type 0
SettledOf s kept = (k : Kept) (bytes : List ℕ) → kept ≡ Some k → s.reads ≡ Some bytes → Only bytes s

-- a journal that is kept takes more
abbrev pub OpenOf : Option Kept → Type 0
OpenOf kept = (k : Kept) (at : Standing) → kept ≡ Some k → k.journal ≡ Some at → at.is_closed ≡ false

-- these calls are what reads give, where that is told, and what is kept stands for them
pub record Knows (reads : Option (List ℕ)) (kept : Kept) : Type 0 where
  pub calls : List Call
  pub stands : IfSome reads (λ bytes. StandsFor calls kept.pages)
  pub in_file : IfSome reads (IsFileOf calls kept.journal)
  pub short : IfSome reads (λ bytes. IsShort kept.journal kept.pages)

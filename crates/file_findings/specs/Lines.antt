-- Findings as lines of output.
use Rattle.std.specs.Prelude.{ℕ, zero, suc, ◌-◌, ◌+◌, List, [], ◌∷◌, ◌++◌, codes, filter, length, take}
use Rattle.std.specs.List.{flat_map}
use Rattle.byte_grammar.specs.Numbered.{numbered}
use Rattle.file_findings.specs.declared.finding.Finding.{Finding}
use Rattle.file_findings.specs.declared.finding.Finding.TheVariants as f
use Rattle.file_findings.specs.declared.finding.Device.{Device}
use Rattle.file_findings.specs.declared.finding.Device.TheVariants.{Store, Book, BookOf}
use Rattle.file_findings.specs.declared.finding.Found.{Found}
use Rattle.file_findings.specs.declared.kind.Kind.{Kind}
use Rattle.file_findings.specs.Kinds.{kind_of, rank_of, rank_name, name_of, all_kinds, is_of}

-- ---- a finding

abbrev pub device_text : Device → List ℕ
device_text Store = codes "store"
device_text Book = codes "book"
device_text (BookOf number) = numbered (codes "book ") number

abbrev pub two : List ℕ → ℕ → List ℕ → ℕ → List ℕ
two v m w n = numbered v m ++ numbered w n

abbrev pub three : List ℕ → ℕ → List ℕ → ℕ → List ℕ → ℕ → List ℕ
three u l v m w n = numbered u l ++ two v m w n

-- where bytes stand after records
abbrev pub tail_words : ℕ → ℕ → ℕ → ℕ → List ℕ
tail_words segment byte bytes records = two (codes " segment ") segment (codes " byte ") byte ++ two (codes " bytes ") bytes (codes " records ") records

-- the words and numbers
abbrev pub words_of : Finding → List ℕ
words_of f.NoStore = []
words_of f.LostStore = []
words_of f.NoBook = []
words_of (f.DamagedFront byte) = numbered (codes " byte ") byte
words_of (f.DamagedList entry) = numbered (codes " record ") entry
words_of (f.OtherId id) = numbered (codes " id ") id
words_of f.FirstFormat = []
words_of (f.CutOff segment byte bytes records) = tail_words segment byte bytes records
words_of (f.Trailing segment byte bytes records) = tail_words segment byte bytes records
words_of (f.NumberGap item before this) = three (codes " item ") item (codes " before ") before (codes " this ") this
words_of (f.MomentFalls item before this) = three (codes " item ") item (codes " before ") before (codes " this ") this
words_of (f.Misfit item operation) = two (codes " item ") item (codes " operation ") operation
words_of (f.Unsayable item operation) = two (codes " item ") item (codes " operation ") operation
words_of (f.IdlePolicy item) = numbered (codes " item ") item
words_of (f.OddFrontier item moment) = two (codes " item ") item (codes " moment ") moment
words_of (f.Beyond item moment) = two (codes " item ") item (codes " moment ") moment
words_of (f.StoreAhead moment clock) = two (codes " moment ") moment (codes " clock ") clock
words_of (f.StoreBehind tile end last) = three (codes " tile ") tile (codes " end ") end (codes " last ") last
words_of (f.UnsealedEra era tile sealed) = three (codes " era ") era (codes " tile ") tile (codes " sealed ") sealed
words_of (f.UnsealedFrontier tile sealed) = two (codes " tile ") tile (codes " sealed ") sealed
words_of (f.SealMissing batch) = numbered (codes " batch ") batch
words_of (f.BatchEarly batch second end) = three (codes " batch ") batch (codes " second ") second (codes " end ") end
words_of (f.MarkOver mark tiles sealed) = three (codes " mark ") mark (codes " tiles ") tiles (codes " sealed ") sealed
words_of (f.SecondsFall entry before this) = three (codes " entry ") entry (codes " before ") before (codes " this ") this
words_of (f.AlteredMark mark second marks) = three (codes " mark ") mark (codes " second ") second (codes " marks ") marks
words_of (f.BookAhead second clock) = two (codes " second ") second (codes " clock ") clock
words_of (f.BookDiffers entry) = numbered (codes " entry ") entry
words_of (f.BookBehind sealed most) = two (codes " sealed ") sealed (codes " most ") most

-- RANK NAME of DEVICE WORDS
abbrev pub line_of : Found → List ℕ
line_of found =
    rank_name (rank_of found.finding) ++ (codes " " ++ (name_of (kind_of found.finding) ++ (codes " of " ++ (device_text found.device ++ (words_of found.finding ++ codes "\n")))))

-- ---- all of them

-- how many of a name have lines
abbrev pub most_lines : ℕ
most_lines = 100

abbrev pub of_kind : Kind → List Found → List Found
of_kind kind all = filter (λ found. is_of kind found.finding) all

abbrev pub more_line : Kind → ℕ → List ℕ
more_line kind zero = []
more_line kind (suc n) = codes "more " ++ (name_of kind ++ (numbered (codes " ") (suc n) ++ codes "\n"))

-- the first of a kind, and how many more there are
abbrev pub kind_lines : List Found → Kind → List ℕ
kind_lines all kind = flat_map line_of (take most_lines (of_kind kind all)) ++ more_line kind (length (of_kind kind all) - most_lines)

abbrev pub last_line : ℕ → ℕ → ℕ → List ℕ
last_line items entries findings =
    three (codes "inspected store ") items (codes " book ") entries (codes " findings ") findings ++ codes "\n"

-- kind by kind, by the table, and how much was looked at
abbrev pub report_text : ℕ → ℕ → List Found → List ℕ
report_text items entries all = flat_map (kind_lines all) all_kinds ++ last_line items entries (length all)

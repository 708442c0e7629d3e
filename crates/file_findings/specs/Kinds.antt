-- What a finding is called, and who leaves a file so.
use Rattle.std.specs.Prelude.{ℕ, ◌==◌, nat_eq, Bool, List, [], ◌∷◌, codes, Option}
use Rattle.std.specs.Cmp.Lexicographic.{pointwise}
use Rattle.std.specs.List.{find}
use Rattle.file_findings.specs.declared.finding.Finding.{Finding}
use Rattle.file_findings.specs.declared.finding.Finding.TheVariants as f
use Rattle.file_findings.specs.declared.kind.Kind.{Kind}
use Rattle.file_findings.specs.declared.kind.Kind.TheVariants as k
use Rattle.file_findings.specs.declared.kind.Rank.{Rank}
use Rattle.file_findings.specs.declared.kind.Rank.TheVariants.{Alarm, Notice}

-- ---- kinds

abbrev pub kind_of : Finding → Kind
kind_of f.NoStore = k.NoStore
kind_of f.LostStore = k.NoStore
kind_of f.NoBook = k.NoBook
kind_of (f.DamagedFront byte) = k.Damaged
kind_of (f.DamagedList entry) = k.Damaged
kind_of (f.OtherId id) = k.OtherId
kind_of f.FirstFormat = k.FirstFormat
kind_of (f.CutOff segment byte bytes records) = k.Trailing
kind_of (f.Trailing segment byte bytes records) = k.Trailing
kind_of (f.NumberGap item before this) = k.NumberGap
kind_of (f.MomentFalls item before this) = k.MomentFalls
kind_of (f.Misfit item operation) = k.Misfit
kind_of (f.Unsayable item operation) = k.Unsayable
kind_of (f.IdlePolicy item) = k.IdlePolicy
kind_of (f.OddFrontier item moment) = k.OddFrontier
kind_of (f.Beyond item moment) = k.Beyond
kind_of (f.StoreAhead moment clock) = k.StoreAhead
kind_of (f.StoreBehind tile end last) = k.StoreBehind
kind_of (f.UnsealedEra era tile sealed) = k.UnsealedEra
kind_of (f.UnsealedFrontier tile sealed) = k.UnsealedFrontier
kind_of (f.SealMissing batch) = k.SealMissing
kind_of (f.BatchEarly batch second end) = k.BatchEarly
kind_of (f.MarkOver mark tiles sealed) = k.MarkOver
kind_of (f.SecondsFall entry before this) = k.SecondsFall
kind_of (f.AlteredMark mark second marks) = k.AlteredMark
kind_of (f.BookAhead second clock) = k.BookAhead
kind_of (f.BookDiffers entry) = k.BookDiffers
kind_of (f.BookBehind sealed most) = k.BookBehind

-- the table's order
abbrev pub all_kinds : List Kind
all_kinds =
    k.NoStore ∷ k.NoBook ∷ k.Damaged ∷ k.OtherId ∷ k.FirstFormat ∷ k.Trailing ∷ k.NumberGap ∷ k.MomentFalls ∷ k.Misfit ∷ k.Unsayable ∷ k.IdlePolicy ∷ k.OddFrontier ∷ k.Beyond
    ∷ k.StoreAhead ∷ k.StoreBehind ∷ k.UnsealedEra ∷ k.UnsealedFrontier ∷ k.SealMissing ∷ k.BatchEarly ∷ k.MarkOver ∷ k.SecondsFall ∷ k.AlteredMark ∷ k.BookAhead ∷ k.BookDiffers
    ∷ k.BookBehind ∷ []

-- the place in it, from 0
abbrev pub place_of : Kind → ℕ
place_of k.NoStore = 0
place_of k.NoBook = 1
place_of k.Damaged = 2
place_of k.OtherId = 3
place_of k.FirstFormat = 4
place_of k.Trailing = 5
place_of k.NumberGap = 6
place_of k.MomentFalls = 7
place_of k.Misfit = 8
place_of k.Unsayable = 9
place_of k.IdlePolicy = 10
place_of k.OddFrontier = 11
place_of k.Beyond = 12
place_of k.StoreAhead = 13
place_of k.StoreBehind = 14
place_of k.UnsealedEra = 15
place_of k.UnsealedFrontier = 16
place_of k.SealMissing = 17
place_of k.BatchEarly = 18
place_of k.MarkOver = 19
place_of k.SecondsFall = 20
place_of k.AlteredMark = 21
place_of k.BookAhead = 22
place_of k.BookDiffers = 23
place_of k.BookBehind = 24

abbrev pub is_of : Kind → Finding → Bool
is_of kind finding = place_of (kind_of finding) == place_of kind

-- ---- names

abbrev pub name_of : Kind → List ℕ
name_of k.NoStore = codes "no-store"
name_of k.NoBook = codes "no-book"
name_of k.Damaged = codes "damaged"
name_of k.OtherId = codes "other-id"
name_of k.FirstFormat = codes "format-1"
name_of k.Trailing = codes "trailing"
name_of k.NumberGap = codes "number-gap"
name_of k.MomentFalls = codes "moment-falls"
name_of k.Misfit = codes "misfit"
name_of k.Unsayable = codes "unsayable"
name_of k.IdlePolicy = codes "idle-policy"
name_of k.OddFrontier = codes "odd-frontier"
name_of k.Beyond = codes "beyond"
name_of k.StoreAhead = codes "store-ahead"
name_of k.StoreBehind = codes "store-behind"
name_of k.UnsealedEra = codes "unsealed-era"
name_of k.UnsealedFrontier = codes "unsealed-frontier"
name_of k.SealMissing = codes "seal-missing"
name_of k.BatchEarly = codes "batch-early"
name_of k.MarkOver = codes "mark-over"
name_of k.SecondsFall = codes "seconds-fall"
name_of k.AlteredMark = codes "altered-mark"
name_of k.BookAhead = codes "book-ahead"
name_of k.BookDiffers = codes "book-differs"
name_of k.BookBehind = codes "book-behind"

abbrev pub is_name : List ℕ → Kind → Bool
is_name name kind = pointwise nat_eq name (name_of kind)

-- the kind of a name
abbrev pub named : List ℕ → Option Kind
named name = find (is_name name) all_kinds

-- ---- ranks

-- a clock, a crash, or a step that is still to come may leave these; nobody but an intruder, a broken disk, or who put an older file back leaves the others
abbrev pub rank_of : Finding → Rank
rank_of f.NoStore = Notice
rank_of f.NoBook = Notice
rank_of f.FirstFormat = Notice
rank_of (f.CutOff segment byte bytes records) = Notice
rank_of (f.StoreAhead moment clock) = Notice
rank_of (f.UnsealedFrontier tile sealed) = Notice
rank_of (f.BatchEarly batch second end) = Notice
rank_of (f.SecondsFall entry before this) = Notice
rank_of (f.BookAhead second clock) = Notice
rank_of finding = Alarm

abbrev pub rank_name : Rank → List ℕ
rank_name Alarm = codes "alarm"
rank_name Notice = codes "notice"

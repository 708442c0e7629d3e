-- When a book reads its file, what that does to its disk, and when the book counts a fault of its own.
use Rattle.std.specs.Prelude.{◌≡◌, ◌⊎◌, ◌+◌, ◌-◌, ◌^◌, ℕ, min, Bool, true, false, List, ◌∷◌, Option, None, IfSome, IsSome, Result, Err, IsOk, OnOk}
use Rattle.outside_words.specs.Faults.{Rose}
use Rattle.outside_words.specs.Told.{WhereTold, TellsAlike}
use Rattle.outside_words.specs.Trace.{Extends}
use Rattle.disk_words.specs.Disk.{State, sync, GoesOn}
use Rattle.notary_link.specs.declared.fail.NotaryFail.{NotaryFail}
use Rattle.notary_link.specs.declared.fail.NotaryFail.TheVariants.{Failed, OutOfTurn, Full, NoMemory}
use Rattle.notary_book.specs.declared.kept.Kept.{Kept}
use Rattle.notary_book.specs.Books.{told_by, lists_told}
use Rattle.notary_book.specs.Moments.{LeavesNone}

-- what a book says is kept behind each answer but a fault and want of memory: behind these it is read anew
abbrev pub KeepsBehind : {T : Type 0} → Result T NotaryFail → Option Kept → Type 0
KeepsBehind (Err Failed) kept = kept ≡ None
KeepsBehind (Err NoMemory) kept = kept ≡ None
KeepsBehind result kept = IsSome kept

-- a sync is the one changing call, if there is any, and it was done where the answer is Ok
pub record Syncs {T E : Type 0} (result : Result T E) (old new : State) (before after : List ℕ) : Type 0 where
  pub done : OnOk result (new.trace ≡ (sync, true) ∷ old.trace)
  pub only : (new.trace ≡ old.trace) ⊎ ((ok : Bool) × (new.trace ≡ (sync, ok) ∷ old.trace))

-- one more, up to the last value of a `u64`
abbrev pub counted : ℕ → ℕ
counted n = min (n + 1) (2 ^ 64 - 1)

-- the bytes are a book, or a device on which one may be made
abbrev pub IsBook : List ℕ → Type 0
IsBook bytes = IsSome (told_by bytes)

-- they are neither
abbrev pub IsNoBook : List ℕ → Type 0
IsNoBook bytes = told_by bytes ≡ None

-- a fault is the disk's, or the book counts one more, of bytes that are no book; behind other answers it counts none
abbrev pub CountsReading : {T : Type 0} → Result T NotaryFail → State → State → ℕ → ℕ → Type 0
CountsReading (Err Failed) old new before after = ((after ≡ before) × Rose old.faults new.faults) ⊎ ((after ≡ counted before) × IfSome old.reads IsNoBook)
CountsReading result old new before after = after ≡ before

-- an answer but a fault or want of memory comes only of bytes that are a book
abbrev pub IsOfBook : {T : Type 0} → Result T NotaryFail → Option (List ℕ) → Type 0
IsOfBook (Err Failed) reads = Unit {0}
IsOfBook (Err NoMemory) reads = Unit {0}
IsOfBook result reads = IfSome reads IsBook

-- what a call that asks does beneath: it reads the file where nothing is kept, and else it answers of what is kept
pub record Looks {T : Type 0} (result : Result T NotaryFail) (old new : State) (kept kept' : Option Kept) (before after : ℕ) : Type 0 where
  pub answers : IsSome kept → IsOk result
  pub keeps : KeepsBehind result kept'
  pub syncs : kept ≡ None → WhereTold old.reads new.reads (Syncs result old new)
  pub counts : CountsReading result old new before after
  pub finds : IsOfBook result old.reads
  pub reads : new.reads ≡ old.reads
  pub images : WhereTold old.reads new.reads (LeavesNone old new)
  pub goes_on : GoesOn old new

-- ---- calls that add

-- behind a refusal
abbrev pub OnRefusal : {T : Type 0} → Result T NotaryFail → Type 0 → Type 0
OnRefusal (Err (OutOfTurn count)) P = P
OnRefusal (Err Full) P = P
OnRefusal result P = Unit {0}

-- a sync is the first changing call, if there is any, and none comes behind it where it failed
abbrev pub SyncsFirst : State → State → List ℕ → List ℕ → Type 0
SyncsFirst old new before after = (new.trace ≡ old.trace) ⊎ ((new.trace ≡ (sync, false) ∷ old.trace) ⊎ Extends ((sync, true) ∷ old.trace) new.trace)

-- what a call that adds does beneath
pub record Alters {T : Type 0} (result : Result T NotaryFail) (old new : State) (kept kept' : Option Kept) (before after : ℕ) : Type 0 where
  pub keeps : KeepsBehind result kept'
  pub syncs : kept ≡ None → WhereTold old.reads new.reads (SyncsFirst old new)
  pub counts : CountsReading result old new before after
  pub finds : IsOfBook result old.reads
  pub told : TellsAlike (lists_told old.reads) (lists_told new.reads)
  pub same : OnRefusal result (new.reads ≡ old.reads)
  pub goes_on : GoesOn old new

-- Which refusal a call answers, by its cause.
use Rattle.std.specs.Prelude.{◌≡◌, ◌≤◌, ℕ, false, Option, Some, None, Result, Ok, Err}
use Rattle.tuple_bytes.specs.declared.header.Header.{Header}
use Rattle.history_model.specs.declared.format.Format.{Format}
use Rattle.history_model.specs.declared.format.Format.TheVariants.{One}
use Rattle.store_engine.specs.declared.fail.StoreFail.{StoreFail}
use Rattle.store_engine.specs.declared.fail.StoreFail.TheVariants as fails
use Rattle.store_engine.specs.Refusals.{Tail, moment_at, is_back, IsOfAnother, IsOfThis}

-- the moment of these clock seconds, which is not before the last one
pub record IsNextMoment (t : Tail) (now moment : ℕ) : Type 0 where
  pub is : moment ≡ moment_at t.header now
  pub not_back : is_back t now ≡ false
  pub follows : t.last ≤ moment

-- Refused is exactly what has a cause, by the first cause, but for a fault of the disk and want of memory.
abbrev pub IsRefusedBy : {A : Type 0} → Option StoreFail → Result A StoreFail → Type 0
IsRefusedBy fault (Ok done) = fault ≡ None
IsRefusedBy fault (Err fails.DiskFault) = fault ≡ None
IsRefusedBy fault (Err fails.NoMemory) = Unit {0}
IsRefusedBy fault (Err fails.NotAStore) = ⊥
IsRefusedBy fault (Err fails.OldFormat) = ⊥
IsRefusedBy fault (Err (fails.ClockBack last)) = fault ≡ Some (fails.ClockBack last)
IsRefusedBy fault (Err fails.TooLate) = fault ≡ Some fails.TooLate
IsRefusedBy fault (Err fails.TooManyOps) = fault ≡ Some fails.TooManyOps
IsRefusedBy fault (Err fails.TooLong) = fault ≡ Some fails.TooLong
IsRefusedBy fault (Err fails.StoreFull) = fault ≡ Some fails.StoreFull
IsRefusedBy fault (Err fails.Closed) = fault ≡ Some fails.Closed

-- the refusals of opening: of the bytes where there is no header of this id, or one of the first format, of the disk, of memory
abbrev pub IsOfOpening : StoreFail → Type 0
IsOfOpening fails.NotAStore = Unit {0}
IsOfOpening fails.OldFormat = Unit {0}
IsOfOpening fails.DiskFault = Unit {0}
IsOfOpening fails.NoMemory = Unit {0}
IsOfOpening (fails.ClockBack last) = ⊥
IsOfOpening fails.TooLate = ⊥
IsOfOpening fails.TooManyOps = ⊥
IsOfOpening fails.TooLong = ⊥
IsOfOpening fails.StoreFull = ⊥
IsOfOpening fails.Closed = ⊥

-- the refusals of an item that has a spelling: the store is closed or full, of the disk, of memory
abbrev pub IsOfAppending : StoreFail → Type 0
IsOfAppending fails.NotAStore = ⊥
IsOfAppending fails.OldFormat = ⊥
IsOfAppending fails.DiskFault = Unit {0}
IsOfAppending fails.NoMemory = Unit {0}
IsOfAppending (fails.ClockBack last) = ⊥
IsOfAppending fails.TooLate = ⊥
IsOfAppending fails.TooManyOps = ⊥
IsOfAppending fails.TooLong = ⊥
IsOfAppending fails.StoreFull = Unit {0}
IsOfAppending fails.Closed = Unit {0}

-- Bytes are refused as no store exactly where they have no header of this id, and as old exactly where they have one, of the
-- first format.
abbrev pub IsNoStore : ℕ → Option Header → Option Format → StoreFail → Type 0
IsNoStore id header format fails.NotAStore = IsOfAnother id header
IsNoStore id header format fails.OldFormat = IsOfThis id header × (format ≡ Some One)
IsNoStore id header format fails.DiskFault = Unit {0}
IsNoStore id header format fails.NoMemory = Unit {0}
IsNoStore id header format (fails.ClockBack last) = ⊥
IsNoStore id header format fails.TooLate = ⊥
IsNoStore id header format fails.TooManyOps = ⊥
IsNoStore id header format fails.TooLong = ⊥
IsNoStore id header format fails.StoreFull = ⊥
IsNoStore id header format fails.Closed = ⊥

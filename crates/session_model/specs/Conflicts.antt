-- Which transaction a conflict carries, and that what is read is a set.
use Rattle.std.specs.Prelude.{◌≡◌, ◌↔◌, ℕ, true, List, ◌∷◌, ◌++◌, MatchOption}
use Rattle.std.specs.List.{Contains, list_any}
use Rattle.tuple_bytes.specs.declared.value.Value.{Value}
use Rattle.tuple_bytes.specs.declared.op.Op.{Op}
use Rattle.tuple_bytes.specs.declared.item.Txn.{Txn}
use Rattle.session_model.specs.declared.place.Place.{Place}
use Rattle.session_model.specs.declared.place.Place.TheVariants.{Key, Keys}
use Rattle.session_model.specs.Places.{touches, touches_one, first_touching}
use Rattle.session_model.specs.Later.{NoneTouches}

-- it touches a place, and none before it does
pub record IsFirstTouching (places : List Place) (ts : List Txn) (number : ℕ) : Type 0 where
  pub before : List Txn
  pub txn : Txn
  pub others : List Txn
  pub parts : ts ≡ before ++ txn ∷ others
  pub none : NoneTouches places before
  pub touches : touches_one places txn ≡ true
  pub numbered : txn.number ≡ number

-- A conflict carries the first transaction that touches something read, and there is none exactly where none does.
abbrev pub ConflictsAreFirst : Type 0
ConflictsAreFirst = (places : List Place) (ts : List Txn) → MatchOption (first_touching places ts) (NoneTouches places ts) (IsFirstTouching places ts)

-- What is read is a set.
abbrev pub ReadsAreASet : Type 0
ReadsAreASet = (a b : List Place) (ts : List Txn) → ((place : Place) → Contains a place ↔ Contains b place) → first_touching a ts ≡ first_touching b ts

-- they touch the same operations
abbrev pub AreSameReads : List Place → List Place → Type 0
AreSameReads a b = (op : Op) → list_any (touches op) a ≡ list_any (touches op) b

-- So may other places stand for what is read, as all keys of a table for those of them that were read.
abbrev pub SameReadsConflictAlike : Type 0
SameReadsConflictAlike = (a b : List Place) (ts : List Txn) → AreSameReads a b → first_touching a ts ≡ first_touching b ts

abbrev pub AllKeysCoverEach : Type 0
AllKeysCoverEach = (table : List ℕ) (key : Value) (places : List Place) → AreSameReads (Keys table ∷ Key table key ∷ places) (Keys table ∷ places)

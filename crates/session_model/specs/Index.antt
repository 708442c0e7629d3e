-- The numbers of the transactions since some begin, by what they touch.
use Rattle.std.specs.Prelude.{◌≡◌, ℕ, ◌+◌, ◌<◌, ◌≤◌, nat_lt, if◌then◌else◌, min, length, map, List, [], ◌∷◌, ◌++◌, Option, Some, None, IfSome}
use Rattle.std.specs.List.{filter, find}
use Rattle.tuple_bytes.specs.declared.op.Op.{Op}
use Rattle.tuple_bytes.specs.declared.item.Txn.{Txn}
use Rattle.history_model.specs.History.{txns}
use Rattle.stmt_text.specs.declared.line.Line.{Line}
use Rattle.session_model.specs.declared.place.Place.{Place}
use Rattle.session_model.specs.Places.{touches, touches_one, first_touching, since}
use Rattle.session_model.specs.Service.{Service}
use Rattle.session_model.specs.Steps.{serve}

-- the numbers of the transactions that touch a place
abbrev pub touch_numbers : List Txn → Place → List ℕ
touch_numbers ts place = map (λ t. t.number) (filter (touches_one (place ∷ [])) ts)

-- transactions have their place as their number
abbrev pub NumberedFrom : ℕ → List Txn → Type 0
NumberedFrom n [] = Unit {0}
NumberedFrom n (t ∷ ts) = (t.number ≡ n + 1) × NumberedFrom (n + 1) ts

-- the transactions stored since a begin have their places as their numbers
pub record AreNumbered (begun : ℕ) (ts : List Txn) : Type 0 where
  pub within : begun ≤ length ts
  pub numbered : NumberedFrom begun (since begun ts)

-- those since the begin of each session
abbrev pub AreAllNumbered : Service → Type 0
AreAllNumbered w = (n : ℕ) → IfSome (w.sessions n) (λ s. AreNumbered s.begun (txns w.store.items))

-- Whatever numbers a file has, those that are stored since a begin are numbered by their places.
abbrev pub NumbersArePlaces : Type 0
NumbersArePlaces = (w : Service) (line : Line) (now : ℕ) → AreAllNumbered w → AreAllNumbered (serve w line now).world

-- So a conflict carries the number of a transaction stored since the begin.
abbrev pub ConflictsAreSince : Type 0
ConflictsAreSince = (begun : ℕ) (ts : List Txn) (places : List Place) → AreNumbered begun ts
    → IfSome (first_touching places (since begun ts)) (λ number. (begun < number) × (number ≤ length ts))

-- the lesser of two numbers, or the one that is there
abbrev pub lesser : Option ℕ → Option ℕ → Option ℕ
lesser None b = b
lesser (Some a) None = Some a
lesser (Some a) (Some b) = Some (min a b)

-- the least of the first numbers above this one, each of a place
abbrev pub least_above : ℕ → (Place → List ℕ) → List Place → Option ℕ
least_above begun index [] = None
least_above begun index (place ∷ places) = lesser (find (nat_lt begun) (index place)) (least_above begun index places)

-- The numbers of all places since some begin show the conflicts of each later begin.
abbrev pub IndexShowsConflicts : Type 0
IndexShowsConflicts = (from begun : ℕ) (ts : List Txn) (places : List Place) → from ≤ begun → begun ≤ length ts → NumberedFrom from (since from ts)
    → least_above begun (touch_numbers (since from ts)) places ≡ first_touching places (since begun ts)

-- A transaction more puts its number behind those of the places that it touches.
abbrev pub IndexGrows : Type 0
IndexGrows = (from : ℕ) (ts : List Txn) (t : Txn) (place : Place) → from ≤ length ts
    → touch_numbers (since from (ts ++ t ∷ [])) place ≡ touch_numbers (since from ts) place ++ (if touches_one (place ∷ []) t then t.number ∷ [] else [])

-- a number more at each place that an operation touches
abbrev pub noted_op : ℕ → Op → (Place → List ℕ) → Place → List ℕ
noted_op n op numbers place = if touches op place then numbers place ++ n ∷ [] else numbers place

-- and that of each of these operations
abbrev pub noted_ops : ℕ → List Op → (Place → List ℕ) → Place → List ℕ
noted_ops n [] numbers = numbers
noted_ops n (op ∷ ops) numbers = noted_ops n ops (noted_op n op numbers)

-- the transactions from some begin on are noted: of the numbers above any later begin the first is theirs
pub record IsIndex (from : ℕ) (numbers : Place → List ℕ) (ts : List Txn) : Type 0 where
  pub within : from ≤ length ts
  pub numbered : NumberedFrom from (since from ts)
  pub shows : (begun : ℕ) (place : Place) → from ≤ begun → find (nat_lt begun) (numbers place) ≡ find (nat_lt begun) (touch_numbers (since from ts) place)

-- Nothing noted is an index that begins now.
abbrev pub IndexBegins : Type 0
IndexBegins = (ts : List Txn) → IsIndex (length ts) (λ place. []) ts

-- With the operations of the next transaction noted it is an index of that too.
abbrev pub NotesKeepIndex : Type 0
NotesKeepIndex = (from : ℕ) (numbers : Place → List ℕ) (ts : List Txn) (t : Txn) → t.number ≡ length ts + 1
    → IsIndex from numbers ts → IsIndex from (noted_ops t.number t.ops numbers) (ts ++ t ∷ [])

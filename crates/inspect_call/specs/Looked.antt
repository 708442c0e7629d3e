-- What a look at a store and its books gives.
use Rattle.std.specs.Prelude.{◌≡◌, ◌⊎◌, ℕ, map, List, [], ◌∷◌, ◌++◌, Option, Some, None, IfSome}
use Rattle.std.specs.List.{AllZip}
use Rattle.outside_words.specs.Faults.{Rose}
use Rattle.disk_words.specs.Disk.{State, Unchanged, GoesOn}
use Rattle.store_inspect.specs.declared.seen.StoreSeen.{StoreSeen}
use Rattle.store_inspect.specs.Store.{IsSeen as IsStoreSeen}
use Rattle.book_inspect.specs.declared.book.BookRead.{BookRead}
use Rattle.book_inspect.specs.declared.book.BookSeen.{BookSeen}
use Rattle.book_inspect.specs.Seen.{IsRead, IsSeen}
use Rattle.inspect_call.specs.declared.looking.Looked.{Looked}
use Rattle.inspect_call.specs.Gathered.{known_of, gathered, items_in, entries_in, id_for}

-- a device is as it was
abbrev pub Same : State → State → Type 0
Same old new = Unchanged old new × GoesOn old new

-- so, where one is named
abbrev pub WhereNamed : {X : Type 0} → (X → X → Type 0) → Option X → Option X → Type 0
WhereNamed P None None = Unit {0}
WhereNamed P (Some old) (Some new) = P old new
WhereNamed P None (Some new) = ⊥
WhereNamed P (Some old) None = ⊥

-- the count of faults of the one that is named rose
abbrev pub NamedRose : Option ℕ → Option ℕ → Type 0
NamedRose None after = ⊥
NamedRose (Some before) None = ⊥
NamedRose (Some before) (Some after) = Rose before after

-- some count of faults rose
abbrev pub SomeRose : List ℕ → List ℕ → Type 0
SomeRose [] after = ⊥
SomeRose (n ∷ before) [] = ⊥
SomeRose (n ∷ before) (m ∷ after) = Rose n m ⊎ SomeRose before after

-- ---- what reads give, where it is told

-- the store was seen as it is, where one is named
abbrev pub SeesStore : Option ℕ → ℕ → Option (Option (List ℕ)) → Option StoreSeen → Type 0
SeesStore id second None None = Unit {0}
SeesStore id second (Some reads) (Some seen) = IfSome reads (λ bytes. IsStoreSeen id second bytes seen)
SeesStore id second None (Some seen) = ⊥
SeesStore id second (Some reads) None = ⊥

-- a book was read, or looked at, as it is
abbrev pub ReadsBook : Option (List ℕ) → BookRead → Type 0
ReadsBook reads r = IfSome reads (λ bytes. IsRead bytes r)

abbrev pub SeesBook : ℕ → ℕ → Option (List ℕ) → BookSeen → Type 0
SeesBook id second reads b = IfSome reads (λ bytes. IsSeen id second bytes b)

-- one more was read
pub record AddsRead (reads : Option (List ℕ)) (old new : List BookRead) : Type 0 where
  pub read : BookRead
  pub is : ReadsBook reads read
  pub added : new ≡ old ++ read ∷ []

-- what was seen of a book that was read is what its bytes are
abbrev pub LooksAt : ℕ → ℕ → BookRead → BookSeen → Type 0
LooksAt id second r b = (b.payloads ≡ r.payloads) × ((bytes : List ℕ) → IsRead bytes r → IsSeen id second bytes b)

-- ---- all

-- what was found is what is gathered of devices that were seen as they are
pub record IsLooked (id : Option ℕ) (second : ℕ) (store : Option (Option (List ℕ))) (books : List (Option (List ℕ))) (l : Looked) : Type 0 where
  pub seen : Option StoreSeen
  pub sees : SeesStore id second store seen
  pub all : List BookSeen
  pub own : ℕ
  pub own_is : own ≡ id_for id (known_of seen) (map (λ b. b.payloads) all)
  pub each : AllZip (SeesBook own second) books all
  pub found : l.found.items ≡ gathered own seen all
  pub items : l.items ≡ items_in (known_of seen)
  pub entries : l.entries ≡ entries_in all

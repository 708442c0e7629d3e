-- What calls on the file of a book do with its bytes.
use Rattle.std.specs.Prelude.{◌≡◌, ◌⊎◌, true, List, [], ◌∷◌, ◌++◌, ℕ, Option, Some, Result, IfOk, OnOk}
use Rattle.disk_words.specs.declared.DiskFail.{DiskFail}
use Rattle.disk_words.specs.Disk.{State, Only}
use Rattle.disk_model.specs.Moments.{EveryImage}
use Rattle.notary_link.specs.Notary.{Call}
use Rattle.txn_journal.specs.declared.fail.JournalFail.{JournalFail}
use Rattle.txn_journal.specs.Held.{Standing}
use Rattle.txn_journal.specs.Create.{is_free}
use Rattle.notary_book.specs.Books.{lists_of, all_next, calls_in, told_by}
use Rattle.notary_book.specs.Kept.{Stores, IsFileOf}

-- the bytes say that these calls were done
abbrev pub Tells : List Call → List ℕ → Type 0
Tells calls c = told_by c ≡ Some (lists_of calls)

-- these, or these others
abbrev pub TellsEither : List Call → List Call → List ℕ → Type 0
TellsEither calls others c = Tells calls c ⊎ Tells others c

-- a device that is free is made empty, and at each moment it is free
pub record Clears (result : Result (Unit {0}) DiskFail) (old new : State) (before after : List ℕ) : Type 0 where
  pub cleared : OnOk result (after ≡ [])
  pub durable : OnOk result (Only after new)
  pub images : is_free before ≡ true → Only before old → EveryImage old new (λ c. is_free c ≡ true)

-- a book is made on it, and at each moment it says that no call was done
pub record Makes (result : Result Standing JournalFail) (old new : State) (before after : List ℕ) : Type 0 where
  pub made : IfOk result (λ at. Stores [] at after)
  pub durable : IfOk result (λ at. Only after new)
  pub images : is_free before ≡ true → Only before old → EveryImage old new (Tells [])

-- the file is made where it isn't, and at each moment it says that the same calls were done
pub record Starts (at : Option Standing) (result : Result Standing JournalFail) (old new : State) (before after : List ℕ) : Type 0 where
  pub made : IfOk result (λ now. (calls : List Call) → IsFileOf calls at before → Stores calls now after)
  pub durable : IfOk result (λ now. Only before old → Only after new)
  pub images : (calls : List Call) → IsFileOf calls at before → Only before old → EveryImage old new (Tells calls)

-- a payload is added, and at each moment its call is there so or isn't
pub record Adds {E : Type 0} (at : Option Standing) (payload : List ℕ) (result : Result Standing E) (old new : State) (before after : List ℕ) : Type 0 where
  pub added : IfOk result (λ now. (calls : List Call) → IsFileOf calls at before → all_next [] (calls ++ calls_in (payload ∷ [])) ≡ true → Stores (calls ++ calls_in (payload ∷ [])) now after)
  pub durable : IfOk result (λ now. Only before old → Only after new)
  pub images : (calls : List Call) → IsFileOf calls at before → Only before old → all_next [] (calls ++ calls_in (payload ∷ [])) ≡ true → EveryImage old new (TellsEither calls (calls ++ calls_in (payload ∷ [])))

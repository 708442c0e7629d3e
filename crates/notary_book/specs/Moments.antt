-- What is on a disk at each moment of a call of a book.
use Rattle.std.specs.Prelude.{◌≡◌, ◌⊎◌, List, ℕ, Some, Result, OnOk, IfSome}
use Rattle.disk_words.specs.Disk.{State, Only}
use Rattle.disk_model.specs.Moments.{EveryImage}
use Rattle.notary_link.specs.Notary.{Call, Lists, Adds, Keeps}
use Rattle.notary_book.specs.Books.{told_by}

-- each image is one of before
abbrev pub LeavesNone : State → State → List ℕ → List ℕ → Type 0
LeavesNone old new before after = EveryImage old new old.is_image

-- bytes that say these lists, with what a call adds or without
abbrev pub SaysOf : Call → Lists → List ℕ → Type 0
SaysOf call lists c = (now : Lists) × (told_by c ≡ Some now) × (Adds call lists now ⊎ Keeps lists now)

-- each image is one of before, or says the lists, with what the call adds or without
abbrev pub LeavesOf : Call → State → State → List ℕ → List ℕ → Type 0
LeavesOf call old new before after = IfSome (told_by before) (λ lists. EveryImage old new (λ c. old.is_image c ⊎ SaysOf call lists c))

-- after Ok what reads give is the only image
abbrev pub IsDurable : {E : Type 0} → Result (Unit {0}) E → State → List ℕ → List ℕ → Type 0
IsDurable result new before after = OnOk result (Only after new)

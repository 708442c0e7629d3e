-- What the search for the first bad tile answers.
use Rattle.std.specs.Prelude.{◌≡◌, ◌≢◌, ◌<◌, ◌-◌, ℕ, Bool, true, false, List, [], Option, Result, Ok, Err}
use Rattle.std.specs.List.{slice_index_or}
use Rattle.notary_link.specs.declared.name.Name.TheVariants.{Cum}
use Rattle.notary_link.specs.declared.answer.Answer.{Answer}
use Rattle.notary_link.specs.declared.answer.Answer.TheVariants.{Same, Differs, Absent}
use Rattle.notary_link.specs.declared.fail.AskFail.{AskFail}
use Rattle.notary_link.specs.declared.fail.AskFail.TheVariants.{NotaryFault, SealMissing, NotSealedSo, NotaryInconsistent, NoMemory}
use Rattle.notary_link.specs.Batches.{answer}
use Rattle.notary_link.specs.Notary.{Lists}
use Rattle.audit_model.specs.Mono.{BeginsRegion}

-- what is answered of the chain's value at the end of each tile
abbrev pub link_answers : Lists → ℕ → List (List ℕ) → ℕ → Answer
link_answers lists id links tile = answer (lists.batches id) (Cum tile) (slice_index_or links tile [])

-- Ok tells where the region of n tiles begins. A missing seal is that of a tile of which none was filed, and none is told where the
-- last tile is the same.
abbrev pub Finds : (ℕ → Answer) → ℕ → Result (Option ℕ) AskFail → Type 0
Finds cums n (Ok region) = BeginsRegion cums n region
Finds cums n (Err (SealMissing (Cum tile))) = (tile < n) × (cums tile ≡ Absent) × (cums (n - 1) ≢ Same)
Finds cums n (Err (SealMissing name)) = ⊥
Finds cums n (Err fail) = Unit {0}

-- Ok tells whether the chain differs at the end of a tile, and a missing seal is that of this tile.
abbrev pub Compares : (ℕ → Answer) → ℕ → Result Bool AskFail → Type 0
Compares cums tile (Ok true) = cums tile ≡ Differs
Compares cums tile (Ok false) = cums tile ≡ Same
Compares cums tile (Err (SealMissing (Cum missing))) = (missing ≡ tile) × (cums tile ≡ Absent)
Compares cums tile (Err (SealMissing name)) = ⊥
Compares cums tile (Err fail) = Unit {0}

-- Only the notary fails, or the seal of one of n tiles is missing.
abbrev pub IsFindFail : {T : Type 0} → ℕ → Result T AskFail → Type 0
IsFindFail n (Ok found) = Unit {0}
IsFindFail n (Err NotaryFault) = Unit {0}
IsFindFail n (Err NoMemory) = Unit {0}
IsFindFail n (Err (SealMissing (Cum tile))) = tile < n
IsFindFail n (Err (SealMissing name)) = ⊥
IsFindFail n (Err NotSealedSo) = ⊥
IsFindFail n (Err (NotaryInconsistent era level index)) = ⊥

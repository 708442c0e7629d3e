-- A world whose store is what was filed stays so, and no line tells of an alteration.
use Rattle.std.specs.Prelude.{◌≡◌, ◌⊎◌, ℕ, ◌+◌, List, [], length, Option, IfSome}
use Rattle.tuple_bytes.specs.Spelling.{FitsHeader}
use Rattle.history_model.specs.History.{History}
use Rattle.notary_link.specs.Batches.{Batch}
use Rattle.audit_model.specs.Sound.{HoldsNotarized}
use Rattle.stmt_text.specs.declared.line.Line.{Line}
use Rattle.store_world.specs.World.{World, history_of}
use Rattle.store_world.specs.Found.{Found}
use Rattle.store_world.specs.Steps.{step, filed_for}
use Rattle.store_world.specs.Finding.{MayFind}
pub use Rattle.store_world.specs.NoAlteration.{TellsNoAlteration}

-- these batches are none, or those of a history with n sealed tiles, which has reached their end
abbrev pub HoldsFiled : List Batch → ℕ → Option History → Type 0
HoldsFiled batches id held = (batches ≡ []) ⊎ ((n : ℕ) × (length batches ≡ n + 1) × HoldsNotarized batches id n held)

-- nothing is filed for the world's store, or what is filed is what it has
abbrev pub IsSoundWorld : World → Type 0
IsSoundWorld w = HoldsFiled (filed_for w) w.id (history_of w)

-- a header that a file may have, of the world's id
abbrev pub HasFitHeader : World → Type 0
HasFitHeader w = IfSome w.store (λ store. FitsHeader store.header × (store.header.id ≡ w.id))

-- A sound world stays sound at every line, and no line tells of an alteration.
abbrev pub SoundWorldsStaySound : Type 0
SoundWorldsStaySound = (w : World) (line : Line) (now : ℕ) (found : Found) → HasFitHeader w → IsSoundWorld w → MayFind w line now found
    → IsSoundWorld (step w line now found).world × HasFitHeader (step w line now found).world × TellsNoAlteration w line found

-- What a reply acknowledges is stored, and no line takes an item away.
use Rattle.std.specs.Prelude.{◌≡◌, ℕ, List, ◌++◌, Option, Some, None}
use Rattle.tuple_bytes.specs.declared.item.Item.{Item}
use Rattle.stmt_text.specs.declared.line.Line.{Line}
use Rattle.statement_core.specs.Database as statements
use Rattle.store_world.specs.World.{World}
use Rattle.store_world.specs.Found.{Found}
use Rattle.store_world.specs.Steps.{step}
use Rattle.store_world.specs.Acknowledged.{HasTxn, ok_text}

-- it is in this store
abbrev pub IsStored : List ℕ → Option statements.Database → Type 0
IsStored digits None = ⊥
IsStored digits (Some store) = HasTxn digits store.items

-- the same header, and perhaps items more behind all others
pub record Extends (old new : statements.Database) : Type 0 where
  pub header : new.header ≡ old.header
  pub more : List Item
  pub items : new.items ≡ old.items ++ more

-- there is a store as before, and only items more are stored
abbrev pub OnlyAppends : Option statements.Database → Option statements.Database → Type 0
OnlyAppends None None = Unit {0}
OnlyAppends None (Some new) = ⊥
OnlyAppends (Some old) None = ⊥
OnlyAppends (Some old) (Some new) = Extends old new

-- A line that is replied `ok N` leaves a store that has the transaction N.
abbrev pub StepsAcknowledge : Type 0
StepsAcknowledge = (w : World) (line : Line) (now : ℕ) (found : Found) (digits : List ℕ) → (step w line now found).text ≡ ok_text digits → IsStored digits (step w line now found).world.store

-- No line takes an item away, or changes one.
abbrev pub StepsOnlyAppend : Type 0
StepsOnlyAppend = (w : World) (line : Line) (now : ℕ) (found : Found) → OnlyAppends w.store (step w line now found).world.store

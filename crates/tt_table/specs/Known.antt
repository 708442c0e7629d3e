-- What is known of pending operations, at a key of a table.
use Rattle.std.specs.Prelude.{ℕ, ◌≡◌, Bool, false, ◌&&◌, Option, Some, List, take, drop}
use Rattle.std.specs.List.{AllByRecursion}
use Rattle.tuple_bytes.specs.declared.value.Value.{Value}
use Rattle.tuple_bytes.specs.declared.op.Column.{Column}
use Rattle.tuple_bytes.specs.declared.op.Op.{Op}
use Rattle.tuple_bytes.specs.declared.op.Op.TheVariants.{Create, Put, Remove}
use Rattle.history_model.specs.Values.{key_of, is_fitting, same_name, same_key}
use Rattle.history_model.specs.Glance.{Glance}
use Rattle.tt_table.specs.declared.known.Known.{Known}

-- an operation puts or removes this key, in the table of this name
abbrev pub is_of_key : List ℕ → Value → Op → Bool
is_of_key name key (Create n columns) = false
is_of_key name key (Put n row) = same_name n name && same_key (key_of row) key
is_of_key name key (Remove n k) = same_name n name && same_key k key

-- it creates the table
abbrev pub creates : List ℕ → Op → Bool
creates name (Create n columns) = same_name n name
creates name (Put n row) = false
creates name (Remove n k) = false

-- none of these does
abbrev pub NoneOfKey : List ℕ → Value → List Op → Type 0
NoneOfKey name key ops = AllByRecursion (λ op. is_of_key name key op ≡ false) ops

abbrev pub NoneCreates : List ℕ → List Op → Type 0
NoneCreates name ops = AllByRecursion (λ op. creates name op ≡ false) ops

-- none before the one place creates the table, and none from the other on is of the key
pub record IsKnown (name : List ℕ) (key : Value) (known : Known) (ops : List Op) : Type 0 where
  pub created : NoneCreates name (take known.creates_from ops)
  pub changed : NoneOfKey name key (drop known.changes_to ops)

-- behind it the row at the key does not depend on what was there
abbrev pub settles : List Column → List ℕ → Value → Op → Bool
settles columns name key (Create n c) = false
settles columns name key (Put n row) = is_of_key name key (Put n row) && is_fitting columns row
settles columns name key (Remove n k) = is_of_key name key (Remove n k)

-- a table with these columns, and a row
abbrev pub seen_with : List Column → Option (List Value) → Option Glance
seen_with columns row = Some (record { columns = columns; row = row })

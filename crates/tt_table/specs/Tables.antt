-- Tables that keep every version of their rows, and what they say of a moment.
use Rattle.std.specs.Prelude.{◌≡◌, ℕ, ◌≤◌, nat_lt, nat_le, Bool, true, ◌&&◌, if◌then◌else◌, Option, Some, None, IfSome, List, [], ◌∷◌, ⊤}
use Rattle.std.specs.List.{AllByRecursion, filter_map}
use Rattle.std.specs.Option.{option_map_or}
use Rattle.std.specs.declared.cmp.Ordering.{Ordering}
use Rattle.tuple_bytes.specs.declared.value.Value.{Value}
use Rattle.tuple_bytes.specs.declared.op.Column.{Column}
use Rattle.tuple_bytes.specs.Order.{name_cmp, value_cmp}
use Rattle.history_model.specs.Ordered.{item_at}
use Rattle.history_model.specs.State.{Table, State}
use Rattle.tt_table.specs.declared.version.Version.{Version}

-- a key and its versions, in order of creation
pub record KeyVersions : Type 0 where
  pub key : Value
  pub versions : List Version

-- a table, with each key that it ever held, in the keys' order
pub record TableVersions : Type 0 where
  pub name : List ℕ
  pub columns : List Column
  pub created : ℕ
  pub keys : List KeyVersions

-- the tables in the order of their names, and the moment of the last transaction, or 0
pub record TablesVersions : Type 0 where
  pub tables : List TableVersions
  pub last : ℕ

-- a version counts from its start up to, and not including, its stop
abbrev pub is_live : ℕ → Version → Bool
is_live m v = nat_le v.start m && option_map_or (nat_lt m) v.stop true

-- the row of a version that counts at a moment
abbrev pub live_row : ℕ → List Version → Option (List Value)
live_row m [] = None
live_row m (v ∷ vs) = if is_live m v then Some v.row else live_row m vs

abbrev pub live_key : ℕ → KeyVersions → Option (List Value)
live_key m k = live_row m k.versions

-- a table as it is at a moment
abbrev pub table_cut : ℕ → TableVersions → Table
table_cut m t = record { name = t.name; columns = t.columns; rows = filter_map (live_key m) t.keys }

abbrev pub live_table : ℕ → TableVersions → Option Table
live_table m t = if nat_le t.created m then Some (table_cut m t) else None

-- what the versions say of a moment
abbrev pub state_at : TablesVersions → ℕ → State
state_at all m = filter_map (live_table m) all.tables

abbrev pub at_name : List ℕ → TableVersions → Ordering
at_name name t = name_cmp t.name name

abbrev pub at_key : Value → KeyVersions → Ordering
at_key key k = value_cmp k.key key

-- each version but the last has stopped before the next starts
abbrev pub Follows : Version → List Version → Type 0
Follows v [] = ⊤
Follows v (w ∷ ws) = (stop : ℕ) × (v.stop ≡ Some stop) × (stop ≤ w.start) × Follows w ws

abbrev pub IsChain : List Version → Type 0
IsChain [] = ⊤
IsChain (v ∷ vs) = Follows v vs

-- a list of versions of one key
pub record AreVersions (vs : List Version) : Type 0 where
  pub stops_after : AllByRecursion (λ v. IfSome v.stop (λ stop. v.start ≤ stop)) vs
  pub chain : IsChain vs

-- the table of a name, and the versions of a key of it
abbrev pub table_in : TablesVersions → List ℕ → Option TableVersions
table_in all name = item_at (at_name name) all.tables

abbrev pub key_in : Value → TableVersions → Option KeyVersions
key_in key t = item_at (at_key key) t.keys

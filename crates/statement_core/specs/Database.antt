-- A database as statements see it: a stored history, and the place of the gate behind it.
use Rattle.std.specs.Prelude.{◌≡◌, ◌⊎◌, ℕ, List, ◌++◌, ◌∷◌, [], length, Option, Some, None}
use Rattle.tuple_bytes.specs.declared.header.Header.{Header}
use Rattle.tuple_bytes.specs.declared.item.Item.{Item}
use Rattle.tuple_bytes.specs.declared.item.Item.TheVariants as items
use Rattle.tuple_bytes.specs.declared.item.Txn.{Txn}
use Rattle.tuple_bytes.specs.Spelling.{spell_item, spell_txn, spell_frontier}
use Rattle.history_model.specs.History.{txns, last_moment}
use Rattle.history_model.specs.State.{State, state}
use Rattle.history_model.specs.Placing.{gate_behind}
use Rattle.store_engine.specs.Opened.{Opened, Stores, IsOpenOn}
use Rattle.store_engine.specs.Refusals.{Tail}

-- what a store holds
pub record Database : Type 0 where
  pub header : Header
  pub items : List Item
  -- the place of the gate behind all items
  pub end : ℕ

-- what decides on its next item
abbrev pub tail_of_database : Database → Tail
tail_of_database w = record { header = w.header; count = length (txns w.items); last = last_moment w.items; end = w.end }

-- with one item more
abbrev pub with_item : Database → Item → Database
with_item w item = record w { items = w.items ++ item ∷ []; end = gate_behind w.end (length (spell_item item)) }

-- with one transaction more
abbrev pub with_txn : Database → Txn → Database
with_txn w t = record w { items = w.items ++ items.Txn t ∷ []; end = gate_behind w.end (length (spell_txn t)) }

-- with a Frontier more
abbrev pub with_frontier : Database → ℕ → Database
with_frontier w moment = record w { items = w.items ++ items.Frontier moment ∷ []; end = gate_behind w.end (length (spell_frontier moment)) }

-- the tables of now
abbrev pub tables_now : Database → State
tables_now w = state (txns w.items) (last_moment w.items)

-- those of a past moment, or of now where none is named
abbrev pub tables_at : Database → Option ℕ → State
tables_at w None = tables_now w
tables_at w (Some moment) = state (txns w.items) moment

-- an open store stands for this world
pub record IsIn (w : Database) (s : Opened) (bytes : List ℕ) : Type 0 where
  pub header : s.header ≡ w.header
  pub end : s.at.end ≡ w.end
  pub open_on : IsOpenOn s w.items bytes

-- the bytes store what one of the two worlds has
abbrev pub StoresEither : Database → Database → List ℕ → Type 0
StoresEither w x c = Stores w.header w.items c ⊎ Stores x.header x.items c

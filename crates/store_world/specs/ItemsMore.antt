-- The items that a line adds to a store, and the bytes with them.
use Rattle.std.specs.Prelude.{ℕ, List, [], ◌∷◌, length, drop, Option, Some, None}
use Rattle.tuple_bytes.specs.declared.item.Item.{Item}
use Rattle.tuple_bytes.specs.Spelling.{spell_item}
use Rattle.history_model.specs.Placing.{gate_behind}
use Rattle.store_engine.specs.Appended.{with_record}
use Rattle.statement_core.specs.Database as statements

-- the items that stand behind those of before
abbrev pub items_added : Option statements.Database → Option statements.Database → List Item
items_added (Some old) (Some new) = drop (length old.items) new.items
items_added old new = []

-- Each item replaces the bytes from the gate on, or from the next segment's start, by an open gate, its record, and a closed gate.
abbrev pub with_items : ℕ → List Item → List ℕ → List ℕ
with_items end [] bytes = bytes
with_items end (item ∷ items) bytes = with_items (gate_behind end (length (spell_item item))) items (with_record end item bytes)

-- where the gate behind all items stands
abbrev pub end_of_store : Option statements.Database → ℕ
end_of_store None = 0
end_of_store (Some w) = w.end

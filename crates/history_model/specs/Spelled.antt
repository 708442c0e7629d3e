-- Items that are kept as their spellings.
use Rattle.std.specs.Prelude.{◌≡◌, ℕ, zero, suc, List, [], ◌∷◌, map, Option, Some, None}
use Rattle.std.specs.List.{All}
use Rattle.std.specs.Int.{w32, w64}
use Rattle.byte_grammar.specs.Reading.{number, ◌>>=◌}
use Rattle.tuple_bytes.specs.declared.item.Item.{Item}
use Rattle.tuple_bytes.specs.declared.item.Item.TheVariants as items
use Rattle.tuple_bytes.specs.Spelling.{spell_item, FitsItem}

-- the payloads are the spellings of these items, one of each
pub record AreSpellings (payloads : List (List ℕ)) (spelled : List Item) : Type 0 where
  pub same : payloads ≡ map spell_item spelled
  pub fit : All FitsItem spelled

-- the moment of a transaction; another item has none here
abbrev pub txn_moment : Item → Option ℕ
txn_moment (items.Txn t) = Some t.moment
txn_moment (items.Frontier moment) = None
txn_moment (items.Policy tile granule k algs) = None

-- where it stands in a payload: behind the tag of a transaction and its number
unfoldable pub moment_by : ℕ → List ℕ → Option ℕ
moment_by zero bytes = None
moment_by (suc zero) bytes = do
  n ← number w32 bytes
  m ← number w64 n.1
  Some m.0
moment_by (suc (suc tag)) bytes = None

unfoldable pub moment_at : List ℕ → Option ℕ
moment_at [] = None
moment_at (tag ∷ bytes) = moment_by tag bytes

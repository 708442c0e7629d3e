-- What the items of a store say, kept from item to item.
use Rattle.std.specs.Prelude.{◌≡◌, ◌+◌, ◌≤◌, max, List, length}
use Rattle.tuple_bytes.specs.declared.header.Header.{Header}
use Rattle.tuple_bytes.specs.declared.item.Item.{Item}
use Rattle.tuple_bytes.specs.declared.item.Item.TheVariants as items
use Rattle.history_model.specs.History.{history, txns, last_moment}
use Rattle.digest_model.specs.Layout.{policy_of, with_item as eras_with}
use Rattle.tt_table.specs.Stands.{StandsFor}
use Rattle.tt_table.specs.Versions.{applied}
use Rattle.tt_table.specs.Tables.{TablesVersions}
use Rattle.tuple_bytes.specs.Writing.{txn_by}
use Rattle.store_engine.specs.declared.contents.Contents.{Contents}
use Rattle.store_engine.specs.declared.next_item.NextItem.{NextItem}
use Rattle.store_engine.specs.declared.next_item.NextItem.TheVariants as nexts

-- the count, the last moment, the tables and the eras are those of these items under this header
pub record Tells (header : Header) (c : Contents) (items : List Item) : Type 0 where
  pub count : c.count ≡ length (txns items)
  pub last : c.last ≡ last_moment items
  pub tables : StandsFor c.tables (txns items)
  pub eras : c.eras ≡ policy_of (history header items)

-- the tables are of no later moment
abbrev pub IsInTime : Contents → Type 0
IsInTime c = c.tables.last ≤ c.last

-- the item that is lent by its parts
abbrev pub lent_item : NextItem → Item
lent_item (nexts.Txn number moment ops) = items.Txn (txn_by number moment ops.now)
lent_item (nexts.Frontier moment) = items.Frontier moment
lent_item (nexts.Policy tile granule k algs) = items.Policy tile granule k algs

-- the tables take the item next: a transaction is not before the last one
abbrev pub FollowsTables : Contents → Item → Type 0
FollowsTables c (items.Txn t) = c.tables.last ≤ t.moment
FollowsTables c (items.Frontier moment) = Unit {0}
FollowsTables c (items.Policy tile granule k algs) = Unit {0}

-- with one item more
abbrev pub after_item : Contents → Item → Contents
after_item c (items.Txn t) = record { count = c.count + 1; last = max c.last t.moment; tables = applied t.moment t.ops c.tables; eras = c.eras }
after_item c (items.Frontier moment) = record c { last = max c.last moment }
after_item c (items.Policy tile granule k algs) = record c { eras = eras_with c.eras (items.Policy tile granule k algs) }

-- with other tables
abbrev pub with_tables : TablesVersions → Contents → Contents
with_tables tables c = record c { tables = tables }

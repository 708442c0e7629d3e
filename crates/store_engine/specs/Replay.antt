-- What is read of a file, in file order or in the order of the moments.
use Rattle.std.specs.Prelude.{◌≡◌, ◌==◌, ℕ, List, length, slice_index, Option, Some}
use Rattle.byte_grammar.specs.Gated.{open_gate}
use Rattle.tuple_bytes.specs.declared.header.Header.{Header}
use Rattle.tuple_bytes.specs.declared.item.Item.{Item}
use Rattle.tuple_bytes.specs.declared.item.Txn.{Txn}
use Rattle.history_model.specs.History.{history, txns, last_moment}
use Rattle.history_model.specs.State.{at_moment}
use Rattle.digest_model.specs.Layout.{policy_of}
use Rattle.history_model.specs.Stored.{items_of, front_header, format_of, found_behind}
use Rattle.history_model.specs.declared.format.Format.TheVariants.{Two}
use Rattle.segment_file.specs.Append.{Standing}
use Rattle.chain_state.specs.Chained.{Chained}
use Rattle.store_engine.specs.declared.contents.Contents.{Contents}
use Rattle.store_engine.specs.declared.replay.Gathered.{Gathered}
use Rattle.store_engine.specs.Chaining.{AreChainsOf}
use Rattle.store_engine.specs.Contents.{Tells, IsInTime}

-- this is what the items say that the payloads spell behind this header
pub record IsRead (header : Header) (payloads : List (List ℕ)) (c : Contents) : Type 0 where
  pub tells : Tells header c (items_of payloads)
  pub in_time : IsInTime c

-- The records behind the head of these bytes say this, and a file stands behind them.
pub record Replays (header : Header) (c : Contents) (chains : Option Chained) (at : Standing) (bytes : List ℕ) : Type 0 where
  pub tells : Tells header c (items_of (found_behind bytes).0)
  pub chained : AreChainsOf header (items_of (found_behind bytes).0) chains
  pub end : (found_behind bytes).1 ≡ at.end
  pub length_is : length bytes ≡ at.length
  pub gate : at.gate_is_open ≡ (slice_index bytes at.end == open_gate)

-- the bytes have this header, of a file in segments, and their records say this
pub record OpensAs (header : Header) (c : Contents) (chains : Option Chained) (at : Standing) (bytes : List ℕ) : Type 0 where
  pub header_is : front_header bytes ≡ Some header
  pub format_is : format_of bytes ≡ Some Two
  pub replays : Replays header c chains at bytes

-- the transactions of these items, their last moment, and their eras under this header
pub record IsGathered (header : Header) (g : Gathered) (items : List Item) : Type 0 where
  pub txns_are : g.txns.items ≡ txns items
  pub last_is : g.last ≡ last_moment items
  pub eras_are : g.eras ≡ policy_of (history header items)

-- those of each moment stand in the same order
abbrev pub IsReordered : List Txn → List Txn → Type 0
IsReordered xs ys = (m : ℕ) → at_moment m ys ≡ at_moment m xs

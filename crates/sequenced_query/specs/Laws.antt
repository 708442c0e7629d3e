-- The laws of cuts.
use Rattle.std.specs.Prelude.{◌≡◌, ℕ, Option, List}
use Rattle.tuple_bytes.specs.declared.value.Value.{Value}
use Rattle.tuple_bytes.specs.declared.item.Txn.{Txn}
use Rattle.tuple_bytes.specs.declared.filter.Filter.{Filter}
use Rattle.history_model.specs.State.{state}
use Rattle.tt_table.specs.Tables.{TablesVersions, state_at}
use Rattle.sequenced_query.specs.declared.piece.Piece.{Piece}
use Rattle.sequenced_query.specs.Columns.{columns_in, columns_of}
use Rattle.sequenced_query.specs.Cut.{IsCut}
use Rattle.sequenced_query.specs.Spans.{IsSelect, IsJoin, select_pieces, join_pieces, select_over, join_over}

-- two lists that are the answer are one
abbrev pub CutsAreOne : Type 0
CutsAreOne = (width : ℕ) (answer : ℕ → List (List Value)) (from to : ℕ) (ps qs : List Piece) → IsCut width answer from to ps → IsCut width answer from to qs → ps ≡ qs

-- tables that stand for transactions answer over a span as the transactions say
pub record OverStands (all : TablesVersions) (txns : List Txn) : Type 0 where
  pub selects : (name : List ℕ) (f : Option Filter) (from to : ℕ)
      → select_over (columns_in all) (state_at all) name f from to ≡ select_over (columns_of (state txns all.last)) (state txns) name f from to
  pub joins : (left left_column right right_column : List ℕ) (from to : ℕ)
      → join_over (columns_in all) (state_at all) left left_column right right_column from to
      ≡ join_over (columns_of (state txns all.last)) (state txns) left left_column right right_column from to

-- the pieces that are made moment by moment are the answer
pub record PlainIsCut (all : TablesVersions) : Type 0 where
  pub selects : (name : List ℕ) (f : Option Filter) (from to : ℕ)
      → IsSelect all name f from to (select_pieces (columns_in all) (state_at all) name f from to)
  pub joins : (left left_column right right_column : List ℕ) (from to : ℕ)
      → IsJoin all left left_column right right_column from to (join_pieces (columns_in all) (state_at all) left left_column right right_column from to)

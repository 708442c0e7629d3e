-- The answers over a span.
use Rattle.std.specs.Prelude.{◌≡◌, ◌≢◌, ℕ, Option, Some, None, Result, Ok, Err, List}
use Rattle.tuple_bytes.specs.declared.op.Column.{Column}
use Rattle.tuple_bytes.specs.declared.filter.Filter.{Filter}
use Rattle.history_model.specs.State.{State}
use Rattle.tt_table.specs.Tables.{TablesVersions, state_at}
use Rattle.sequenced_query.specs.declared.piece.Piece.{Piece}
use Rattle.sequenced_query.specs.declared.error.OverFail.{OverFail}
use Rattle.sequenced_query.specs.declared.error.OverFail.TheVariants.{NoMemory}
use Rattle.sequenced_query.specs.Plain.{selected, joined}
use Rattle.sequenced_query.specs.Columns.{columns_in, width_of}
use Rattle.sequenced_query.specs.Cut.{IsCut}
use Rattle.sequenced_query.specs.Plainly.{cut_of}
use Rattle.sequenced_query.specs.Refusals.{over_fault, select_fault, join_fault}

-- ---- what is meant, from tables that keep every version

-- the pieces are the answer to a select
abbrev pub IsSelect : TablesVersions → List ℕ → Option Filter → ℕ → ℕ → List Piece → Type 0
IsSelect all name f from to pieces = IsCut (width_of (columns_in all name)) (λ m. selected (state_at all m) name f) from to pieces

-- the pieces are the answer to a join
abbrev pub IsJoin : TablesVersions → List ℕ → List ℕ → List ℕ → List ℕ → ℕ → ℕ → List Piece → Type 0
IsJoin all left left_column right right_column from to pieces = IsCut (width_of (columns_in all left)) (λ m. joined (state_at all m) left left_column right right_column) from to pieces

-- ---- the same as functions: of the columns that tables have now, and of the state of each moment

-- the pieces that are made moment by moment, of a select and of a join
abbrev pub select_pieces : (List ℕ → Option (List Column)) → (ℕ → State) → List ℕ → Option Filter → ℕ → ℕ → List Piece
select_pieces columns at name f from to = cut_of (width_of (columns name)) (λ m. selected (at m) name f) from to

abbrev pub join_pieces : (List ℕ → Option (List Column)) → (ℕ → State) → List ℕ → List ℕ → List ℕ → List ℕ → ℕ → ℕ → List Piece
join_pieces columns at left left_column right right_column from to = cut_of (width_of (columns left)) (λ m. joined (at m) left left_column right right_column) from to

-- the pieces, unless something is wrong
abbrev pub unless_wrong : Option OverFail → List Piece → Result (List Piece) OverFail
unless_wrong None pieces = Ok pieces
unless_wrong (Some fail) pieces = Err fail

abbrev pub select_over : (List ℕ → Option (List Column)) → (ℕ → State) → List ℕ → Option Filter → ℕ → ℕ → Result (List Piece) OverFail
select_over columns at name f from to =
    unless_wrong (over_fault from to (select_fault f (columns name))) (select_pieces columns at name f from to)

abbrev pub join_over : (List ℕ → Option (List Column)) → (ℕ → State) → List ℕ → List ℕ → List ℕ → List ℕ → ℕ → ℕ → Result (List Piece) OverFail
join_over columns at left left_column right right_column from to =
    unless_wrong (over_fault from to (join_fault left_column right_column (columns left) (columns right))) (join_pieces columns at left left_column right right_column from to)

-- a call answers exactly that, or tells that no memory was left
abbrev pub Answers : Result (List Piece) OverFail → Result (List Piece) OverFail → Type 0
Answers expected (Ok pieces) = expected ≡ Ok pieces
Answers expected (Err fail) = fail ≢ NoMemory → expected ≡ Err fail

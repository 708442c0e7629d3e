-- What is odd about the items of a store, each of which stands after those before it. Items and operations are counted from 1.
use Rattle.std.specs.Prelude.{ℕ, ◌+◌, ◌%◌, ◌==◌, nat_lt, nat_le, min, fold, Bool, true, false, not, ◌&&◌, List, [], ◌∷◌, ◌++◌, length, Option, is_some, is_none, Result, Ok, Err}
use Rattle.std.specs.List.{list_all}
use Rattle.tuple_bytes.specs.declared.header.Header.{Header}
use Rattle.tuple_bytes.specs.declared.item.Item.{Item}
use Rattle.tuple_bytes.specs.declared.item.Item.TheVariants as items
use Rattle.tuple_bytes.specs.declared.op.Op.{Op}
use Rattle.tuple_bytes.specs.declared.op.Op.TheVariants as ops
use Rattle.tuple_bytes.specs.declared.value.Value.{Value}
use Rattle.tuple_bytes.specs.declared.value.Value.TheVariants as values
use Rattle.history_model.specs.declared.change.TableFail.{TableFail}
use Rattle.history_model.specs.History.{history, granule_of, txns}
use Rattle.history_model.specs.Values.{are_columns}
use Rattle.history_model.specs.State.{State, table_of, after_op, after_txns}
use Rattle.history_model.specs.Changes.{takes}
use Rattle.history_model.specs.Answers.{row_at}
use Rattle.digest_model.specs.Layout.{Policy, policy_of, layout_by, is_next, first_granule, tile_of, max_granules}
use Rattle.stmt_text.specs.Values.{is_text}
use Rattle.file_findings.specs.declared.finding.Finding.{Finding}
use Rattle.file_findings.specs.declared.finding.Finding.TheVariants.{NumberGap, MomentFalls, Misfit, Unsayable, IdlePolicy, OddFrontier, Beyond}
use Rattle.file_findings.specs.Along.{listed, found_along}

-- the place of the item that stands after these
abbrev pub next_place : List Item → ℕ
next_place before = length before + 1

-- ---- numbers

abbrev pub after_number : ℕ → Item → ℕ
after_number last (items.Txn t) = t.number
after_number last item = last

-- the number of the last transaction, or 0
abbrev pub last_number : List Item → ℕ
last_number before = fold after_number 0 before

-- the number of a transaction isn't the one after that before it
abbrev pub number_gap : List Item → Item → List Finding
number_gap before (items.Txn t) = listed (not (t.number == last_number before + 1)) (NumberGap (next_place before) (last_number before) t.number)
number_gap before item = []

-- ---- moments

abbrev pub after_moment : ℕ → Item → ℕ
after_moment last (items.Txn t) = t.moment
after_moment last (items.Frontier moment) = moment
after_moment last (items.Policy tile granule k algs) = last

-- the moment of the last item that has one, or 0
abbrev pub moment_before : List Item → ℕ
moment_before before = fold after_moment 0 before

-- the moment of an item lies before that of the item before it
abbrev pub moment_falls : List Item → Item → List Finding
moment_falls before item = listed (nat_lt (after_moment (moment_before before) item) (moment_before before)) (MomentFalls (next_place before) (moment_before before) (after_moment (moment_before before) item))

-- ---- operations

abbrev pub is_row : Result (Option (List Value)) TableFail → Bool
is_row (Ok row) = is_some row
is_row (Err fail) = false

-- a statement may make the operation of these tables
abbrev pub is_fitting_op : Op → State → Bool
is_fitting_op (ops.Create name columns) s = are_columns columns && is_none (table_of name s)
is_fitting_op (ops.Put name row) s = takes (table_of name s) row
is_fitting_op (ops.Remove name key) s = is_row (row_at s name key)

-- which operations of an item don't fit the tables that those before them make
abbrev pub misfits_from : ℕ → ℕ → List Op → State → List Finding
misfits_from item n [] s = []
misfits_from item n (op ∷ ops) s = listed (not (is_fitting_op op s)) (Misfit item n) ++ misfits_from item (n + 1) ops (after_op op s)

-- the tables that items make in file order
abbrev pub tables_of : List Item → State
tables_of before = after_txns (txns before) []

abbrev pub misfits : List Item → Item → List Finding
misfits before (items.Txn t) = misfits_from (next_place before) 1 t.ops (tables_of before)
misfits before item = []

-- a statement may spell the value
abbrev pub is_sayable : Value → Bool
is_sayable (values.Text text) = is_text text
is_sayable value = true

-- it may spell those of the operation; its names are always words
abbrev pub is_sayable_op : Op → Bool
is_sayable_op (ops.Create name columns) = true
is_sayable_op (ops.Put name row) = list_all is_sayable row
is_sayable_op (ops.Remove name key) = is_sayable key

-- which operations of an item have a text that no statement spells
abbrev pub unsayable_from : ℕ → ℕ → List Op → List Finding
unsayable_from item n [] = []
unsayable_from item n (op ∷ ops) = listed (not (is_sayable_op op)) (Unsayable item n) ++ unsayable_from item (n + 1) ops

abbrev pub unsayable : List Item → Item → List Finding
unsayable before (items.Txn t) = unsayable_from (next_place before) 1 t.ops
unsayable before item = []

-- ---- eras

abbrev pub eras_before : Header → List Item → Policy
eras_before header before = policy_of (history header before)

-- a policy begins no era
abbrev pub idle_policy : Header → List Item → Item → List Finding
idle_policy header before (items.Policy tile granule k algs) = listed (not (is_next (eras_before header before) (record { tile = tile; k = k; algs = algs }) granule)) (IdlePolicy (next_place before))
idle_policy header before item = []

-- the tile of a moment: so many have ended there
abbrev pub tile_at : ℕ → Policy → ℕ → ℕ
tile_at width p moment = tile_of (layout_by p) (min (granule_of width moment) max_granules)

-- it begins at the moment, so that the one before it ends there
abbrev pub begins_tile : ℕ → Policy → ℕ → Bool
begins_tile width p moment = (moment % width == 0) && (first_granule (layout_by p) (tile_at width p moment) == granule_of width moment)

-- a restoring stores a Frontier of the last moment. Each other one is a filing's, which gives it the end of a tile
abbrev pub is_filing : List Item → ℕ → Bool
is_filing before moment = not (moment == moment_before before)

-- a Frontier of a moment that neither gives it
abbrev pub odd_frontier : Header → List Item → Item → List Finding
odd_frontier header before (items.Frontier moment) = listed (is_filing before moment && not (begins_tile header.width (eras_before header before) moment)) (OddFrontier (next_place before) moment)
odd_frontier header before item = []

-- how many tiles had ended at the Frontier of a filing
abbrev pub filing_of : Header → List Item → Item → List ℕ
filing_of header before (items.Frontier moment) = listed (is_filing before moment && begins_tile header.width (eras_before header before) moment) (tile_at header.width (eras_before header before) moment)
filing_of header before item = []

-- a transaction after the last granule
abbrev pub beyond : Header → List Item → Item → List Finding
beyond header before (items.Txn t) = listed (nat_le max_granules (granule_of header.width t.moment)) (Beyond (next_place before) t.moment)
beyond header before item = []

-- ---- all

-- what is odd about the items behind a header: kind by kind, and of each kind from the first item to the last
abbrev pub findings_of_items : Header → List Item → List Finding
findings_of_items header its =
    found_along number_gap its ++ (found_along moment_falls its ++ (found_along misfits its ++ (found_along unsayable its
    ++ (found_along (idle_policy header) its ++ (found_along (odd_frontier header) its ++ found_along (beyond header) its)))))

-- What is the answer is what is made moment by moment, and so is what a call answers.
use Rattle.std.proofs.Common.{◌≡◌, ℕ, ◌<◌, nat_lt, true, List, Option, Some, None, Ok, sym, ap, ◌∙◌, arith}
use Rattle.std.specs.Result.{result_err}
use Rattle.std.proofs.lemmas.Bool.Decides.{nat_tests}
use Rattle.tuple_bytes.specs.declared.op.Column.{Column}
use Rattle.tuple_bytes.specs.declared.filter.Filter.{Filter}
use Rattle.asof_query.specs.Filters.{filter_place}
use Rattle.tt_table.specs.Tables.{TablesVersions, state_at}
use Rattle.tt_table.specs.Versions.{AreTables}
use Rattle.sequenced_query.specs.declared.piece.Piece.{Piece}
use Rattle.sequenced_query.specs.declared.error.OverFail.{OverFail}
use Rattle.sequenced_query.specs.Laws.{PlainIsCut}
use Rattle.sequenced_query.specs.declared.join.Places.{Places}
use Rattle.sequenced_query.specs.Plain.{selected, joined, column_named}
use Rattle.sequenced_query.specs.Refusals.{filter_fault, select_fault, joining_places, join_fault, over_fault}
use Rattle.sequenced_query.specs.Columns.{columns_in, width_of}
use Rattle.sequenced_query.specs.Spans.{IsSelect, IsJoin, select_pieces, join_pieces, unless_wrong}
use Rattle.sequenced_query.proofs.PlainCut.{plain_cut}
use Rattle.sequenced_query.proofs.Rising.{selected_sorted, joined_sorted}
use Rattle.sequenced_query.proofs.Ways.{cuts_one}

-- nothing is wrong with a span that has a moment, with a filter that has its place, with columns that join
pub has_moment : (from to : ℕ) (fault : Option OverFail) → from < to → fault ≡ None → over_fault from to fault ≡ None
has_moment from to fault below none = let there : nat_lt from to ≡ true = grind (arith, nat_tests) in rw there none

pub filter_right : (f : Option Filter) (columns : List Column) (o : Option (List Column)) (place : ℕ) → Some columns ≡ o → Ok place ≡ filter_place columns f → select_fault f o ≡ None
filter_right f columns o place is fits = sym (ap (select_fault f) is) ∙ sym (ap filter_fault fits)

pub columns_right : (lc rc : List ℕ) (ls rs : List Column) (l r : Option (List Column)) (places : Places) → Some ls ≡ l → Some rs ≡ r → Ok places ≡ joining_places (column_named lc ls) (column_named rc rs) → join_fault lc rc l r ≡ None
columns_right lc rc ls rs l r places isl isr fits =
    sym (ap (λ o. join_fault lc rc o r) isl) ∙ sym (ap (λ o. join_fault lc rc (Some ls) o) isr) ∙ sym (ap result_err fits)

-- pieces where nothing is wrong
pub answers : (fault : Option OverFail) (made pieces : List Piece) → fault ≡ None → pieces ≡ made → unless_wrong fault made ≡ Ok pieces
answers fault made pieces none same = ap (λ o. unless_wrong o made) none ∙ ap Ok (sym same)

module _ (all : TablesVersions) (are : AreTables all) where
  pub plain_is_cut : PlainIsCut all
  plain_is_cut = record {
    selects = λ name f from to. plain_cut (width_of (columns_in all name)) (λ m. selected (state_at all m) name f) from to (λ m low high. selected_sorted (width_of (columns_in all name)) all are name f m);
    joins = λ left lc right rc from to. plain_cut (width_of (columns_in all left)) (λ m. joined (state_at all m) left lc right rc) from to (λ m low high. joined_sorted all are left lc right rc m);
  }

  pub select_exact : (name : List ℕ) (f : Option Filter) (from to : ℕ) (ps : List Piece) → IsSelect all name f from to ps → ps ≡ select_pieces (columns_in all) (state_at all) name f from to
  select_exact name f from to ps cut = cuts_one (width_of (columns_in all name)) (λ m. selected (state_at all m) name f) from to ps (select_pieces (columns_in all) (state_at all) name f from to) cut (plain_is_cut.selects name f from to)

  pub join_exact : (left lc right rc : List ℕ) (from to : ℕ) (ps : List Piece) → IsJoin all left lc right rc from to ps → ps ≡ join_pieces (columns_in all) (state_at all) left lc right rc from to
  join_exact left lc right rc from to ps cut = cuts_one (width_of (columns_in all left)) (λ m. joined (state_at all m) left lc right rc) from to ps (join_pieces (columns_in all) (state_at all) left lc right rc from to) cut (plain_is_cut.joins left lc right rc from to)

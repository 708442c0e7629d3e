-- Tables that stand for transactions answer as these say.
use Rattle.std.proofs.Common.{◌≡◌, ℕ, Option, Some, None, IfSome, Ok, List, [], refl, sym, ap, ◌∙◌, arith, true, nat_le}
use Rattle.std.specs.Option.{option_map, option_map_or, option_and_then}
use Rattle.std.proofs.lemmas.Bool.Decides.{nat_tests}
use Rattle.tuple_bytes.specs.declared.value.Value.{Value}
use Rattle.tuple_bytes.specs.declared.item.Txn.{Txn}
use Rattle.history_model.specs.Answers.{unless_fault, key_fault, row_at}
use Rattle.history_model.specs.Changes.{changes_of}
use Rattle.history_model.specs.State.{table_of, state}
use Rattle.tt_table.specs.declared.version.Version.{Version}
use Rattle.tt_table.specs.Stands.{StandsFor, versions_from}
use Rattle.tt_table.specs.Versions.{KeyVersions, TableVersions, TablesVersions, AreTables, IsTable, at_name, key_in, live_table, table_cut, table_in}
use Rattle.tt_table.proofs.Reading.{All-item_at, table_seen}
use Rattle.asof_query.specs.Filters.{history_in, scan_of}
use Rattle.asof_query.specs.Told.{AnswersStand, told, history_told}

module _ (all : TablesVersions) (txns : List Txn) (are : AreTables all) (stands : StandsFor all txns) where
  pub all_there : (o : Option TableVersions) → IfSome o (IsTable all.last) → option_and_then (live_table all.last) o ≡ option_map (table_cut all.last) o
  all_there None is = refl
  all_there (Some t) is = let there : nat_le t.created all.last ≡ true = grind (arith, nat_tests, is.created) in rw there refl

  read : (key : Value) (versions : List Version) (o : Option TableVersions) → option_map_or (λ (k : KeyVersions). k.versions) (option_and_then (key_in key) o) [] ≡ versions → history_in key o ≡ told key versions (option_map (table_cut all.last) o)
  read key versions None same = refl
  read key versions (Some t) same = ap (λ vs. unless_fault (key_fault t.columns key) (Ok vs)) same

  histories : (name : List ℕ) (key : Value) → history_in key (table_in all name) ≡ history_told name key txns all.last
  histories name key =
      let versions = versions_from (changes_of name key txns all.last) in
      let here : table_of name (state txns all.last) ≡ option_map (table_cut all.last) (table_in all name) =
      ap (table_of name) (sym (stands.states all.last)) ∙ table_seen all are name all.last ∙ all_there (table_in all name) (All-item_at (at_name name) (IsTable all.last) all.tables are.each) in
      read key versions (table_in all name) (stands.versions name key) ∙ sym (ap (told key versions) here)

  pub answers_stand : AnswersStand all txns
  answers_stand = record {
    rows = λ m name key. ap (λ s. row_at s name key) (stands.states m);
    scans = λ m name f. ap (λ s. scan_of s name f) (stands.states m);
    histories = histories;
  }

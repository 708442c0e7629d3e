-- Tables that stand for transactions answer over a span as these say.
use Rattle.std.proofs.Common.{◌≡◌, ℕ, List, Option, Some, None, refl, sym, ap, ◌∙◌}
use Rattle.std.specs.Option.{option_map}
use Rattle.tuple_bytes.specs.declared.item.Txn.{Txn}
use Rattle.history_model.specs.State.{state, table_of}
use Rattle.tt_table.specs.Stands.{StandsFor}
use Rattle.tt_table.specs.Tables.{TableVersions, TablesVersions, state_at, table_cut, table_in, at_name}
use Rattle.tt_table.specs.Versions.{AreTables, IsTable}
use Rattle.tt_table.proofs.Reading.{All-item_at, table_seen}
use Rattle.asof_query.proofs.Telling.{all_there}
use Rattle.sequenced_query.specs.Columns.{columns_of, columns_in}
use Rattle.sequenced_query.specs.Spans.{select_over, join_over}
use Rattle.sequenced_query.specs.Laws.{OverStands}

module _ (all : TablesVersions) (txns : List Txn) (are : AreTables all) (stands : StandsFor all txns) where
  cut_columns : (o : Option TableVersions) → option_map (λ t. t.columns) (option_map (table_cut all.last) o) ≡ option_map (λ t. t.columns) o
  cut_columns None = refl
  cut_columns (Some t) = refl

  columns_at : (name : List ℕ) → columns_in all name ≡ columns_of (state txns all.last) name
  columns_at name =
      let there = All-item_at (at_name name) (IsTable all.last) all.tables are.each in
      let here : table_of name (state txns all.last) ≡ option_map (table_cut all.last) (table_in all name) =
      ap (table_of name) (sym (stands.states all.last)) ∙ table_seen all are name all.last ∙ all_there all txns are stands (table_in all name) there in
      sym (ap (option_map (λ t. t.columns)) here ∙ cut_columns (table_in all name))

  columns_are : columns_in all ≡ columns_of (state txns all.last)
  columns_are = λ i name. columns_at name i

  states_are : state_at all ≡ state txns
  states_are = λ i m. stands.states m i

  pub over_stands : OverStands all txns
  over_stands = record {
    selects = λ name f from to.
        ap (λ cs. select_over cs (state_at all) name f from to) columns_are
        ∙ ap (λ at. select_over (columns_of (state txns all.last)) at name f from to) states_are;
    joins = λ left lc right rc from to.
        ap (λ cs. join_over cs (state_at all) left lc right rc from to) columns_are
        ∙ ap (λ at. join_over (columns_of (state txns all.last)) at left lc right rc from to) states_are;
  }

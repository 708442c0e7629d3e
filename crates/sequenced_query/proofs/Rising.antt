-- The rows that are answered at a moment come in the order of their keys.
use Rattle.std.proofs.Common.{◌≡◌, ℕ, ◌≤◌, nat_le, Bool, true, false, if◌then◌else◌, Option, Some, None, IfSome, Result, Ok, Err, List, [], ◌∷◌, length, map, refl, sym, ap, subst, ◌∙◌}
use Rattle.std.specs.List.{AllByRecursion, filter_map, cons_option}
use Rattle.std.specs.List.Sorted.{IsStrictlySortedBy}
use Rattle.std.specs.Option.{option_and_then}
use Rattle.std.specs.declared.cmp.Ordering.{Ordering}
use Rattle.std.specs.declared.cmp.Ordering.TheVariants.{Less}
use Rattle.std.proofs.lemmas.List.Kept.{IsStrictlySortedBy-filter}
use Rattle.tuple_bytes.specs.declared.value.Value.{Value}
use Rattle.tuple_bytes.specs.declared.op.Column.{Column}
use Rattle.tuple_bytes.specs.declared.op.Kind.{Kind}
use Rattle.tuple_bytes.specs.declared.filter.Filter.{Filter}
use Rattle.tuple_bytes.specs.Order.{value_cmp}
use Rattle.history_model.specs.declared.change.TableFail.{TableFail}
use Rattle.history_model.specs.State as states
use Rattle.history_model.specs.State.{Table, table_of}
use Rattle.history_model.specs.Values.{key_of, is_fitting}
use Rattle.asof_query.specs.Filters.{passes, passing_at, filter_place, rows_of}
use Rattle.tt_table.specs.declared.version.Version.{Version}
use Rattle.tt_table.specs.Versions.{KeyVersions, TableVersions, TablesVersions, IsTable, AreTables, is_live, live_row, live_key, live_table, table_cut, state_at, table_in, at_name}
use Rattle.tt_table.proofs.Cut.{keys_kept}
use Rattle.tt_table.proofs.Reading.{All-item_at, table_seen}
use Rattle.tt_table.proofs.Seeing.{cut_rises, state_ordered}
use Rattle.sequenced_query.specs.Plain.{rows_or_none, selected, joined_row, joined_rows, joined_by, joined_tables, joined, column_named}
use Rattle.sequenced_query.specs.Columns.{columns_in, width_of}
use Rattle.sequenced_query.specs.Cut.{EachPair, row_order}
use Rattle.sequenced_query.proofs.Pairs.{each_of, pairs_of, pairs_with, pairs_flat, across_of}
use Rattle.sequenced_query.proofs.Keys.{HasKeys, right_below, joined_keys, fitting_length}
use Rattle.sequenced_query.proofs.SelectCut.{IsKept, each_kept, width_is}
use Rattle.sequenced_query.proofs.JoinCut.{joined_is, some_columns}

abbrev pub IsKeyLess : List Value → List Value → Type 0
IsKeyLess a b = value_cmp (key_of a) (key_of b) ≡ Less

pub key_pairs : (rows : List (List Value)) → IsStrictlySortedBy value_cmp (map key_of rows) → EachPair IsKeyLess rows
unfolding IsStrictlySortedBy
key_pairs [] sorted = tt
key_pairs (row ∷ rows) sorted = (each (key_of row) rows sorted.0, key_pairs rows sorted.1)
  where
    each : (key : Value) (xs : List (List Value)) → AllByRecursion (λ y. value_cmp key y ≡ Less) (map key_of xs) → AllByRecursion (λ x. value_cmp key (key_of x) ≡ Less) xs
    each key [] h = tt
    each key (x ∷ xs) h = (h.0, each key xs h.1)

pub sorted_from : {A : Type 0} (R : A → A → Ordering) (xs : List A) → EachPair (λ a b. R a b ≡ Less) xs → IsStrictlySortedBy R xs
unfolding IsStrictlySortedBy
sorted_from R [] h = tt
sorted_from R (x ∷ xs) h = (h.0, sorted_from R xs h.1)

no_rows : (width : ℕ) → IsStrictlySortedBy (row_order width) []
unfolding IsStrictlySortedBy
no_rows width = tt

key_less : (width : ℕ) (a b : List Value) → IsKeyLess a b → row_order width a b ≡ Less
unfolding row_order
key_less width a b e = rw e refl

module _ (width : ℕ) where
  sorted_rows : (rows : List (List Value)) → IsStrictlySortedBy value_cmp (map key_of rows) → IsStrictlySortedBy (row_order width) rows
  sorted_rows rows sorted = sorted_from (row_order width) rows (pairs_of (λ a b e. key_less width a b e) rows (key_pairs rows sorted))

  -- ---- a select

  chosen_sorted : (f : Option Filter) (rows : List (List Value)) → IsStrictlySortedBy (row_order width) rows → (place : Result ℕ TableFail) → IsStrictlySortedBy (row_order width) (rows_or_none (passing_at f rows place))
  chosen_sorted f rows sorted (Ok place) = IsStrictlySortedBy-filter (row_order width) (passes place f) rows sorted
  chosen_sorted f rows sorted (Err fail) = no_rows width

  table_sorted : (f : Option Filter) (o : Option Table) → IfSome o (λ t. IsStrictlySortedBy value_cmp (map key_of t.rows)) → IsStrictlySortedBy (row_order width) (rows_or_none (rows_of f o))
  table_sorted f None h = no_rows width
  table_sorted f (Some t) h = chosen_sorted f t.rows (sorted_rows t.rows h) (filter_place t.columns f)

  pub selected_sorted : (all : TablesVersions) → AreTables all → (name : List ℕ) (f : Option Filter) (m : ℕ) → IsStrictlySortedBy (row_order width) (selected (state_at all m) name f)
  selected_sorted all are name f m = table_sorted f (table_of name (state_at all m)) (All-item_at (states.at_name name) (λ t. IsStrictlySortedBy value_cmp (map key_of t.rows)) (state_at all m) (state_ordered all are m).rows)

  -- ---- a join

  module _ (i j : ℕ) (few : 1 ≤ width) where
    keys_of_joined : (l r got : List Value) → length l ≡ width → joined_row i j l r ≡ Some got → HasKeys width (key_of l) (key_of r) got
    keys_of_joined l r got wide e = subst (HasKeys width (key_of l) (key_of r)) (joined_is width i j l r got e) (joined_keys width l r wide few)

    abbrev Later : List Value → List Value → Type 0
    Later a b = row_order width a b ≡ Less

    module _ (l : List Value) (wide : length l ≡ width) where
      behind : (r x : List Value) → joined_row i j l r ≡ Some x → (rs : List (List Value)) → AllByRecursion (IsKeyLess r) rs → AllByRecursion (Later x) (filter_map (joined_row i j l) rs)
      behind r x e [] h = tt
      behind r x e (s ∷ rs) h = by (joined_row i j l s) refl (behind r x e rs h.1)
        where
          by : (o : Option (List Value)) → joined_row i j l s ≡ o → AllByRecursion (Later x) (filter_map (joined_row i j l) rs) → AllByRecursion (Later x) (cons_option o (filter_map (joined_row i j l) rs))
          by None is rest = rest
          by (Some y) is rest = (right_below width (key_of l) (key_of r) x y (key_of s) (keys_of_joined l r x wide e) (keys_of_joined l s y wide is) h.0, rest)

      right_sorted : (rs : List (List Value)) → EachPair IsKeyLess rs → EachPair Later (filter_map (joined_row i j l) rs)
      right_sorted [] h = tt
      right_sorted (r ∷ rs) h = by (joined_row i j l r) refl (right_sorted rs h.1)
        where
          by : (o : Option (List Value)) → joined_row i j l r ≡ o → EachPair Later (filter_map (joined_row i j l) rs) → EachPair Later (cons_option o (filter_map (joined_row i j l) rs))
          by None is rest = rest
          by (Some x) is rest = (behind r x is rs h.0, rest)

      heads : (rs : List (List Value)) → AllByRecursion (λ x. key_of x ≡ key_of l) (filter_map (joined_row i j l) rs)
      heads [] = tt
      heads (r ∷ rs) = by (joined_row i j l r) refl (heads rs)
        where
          by : (o : Option (List Value)) → joined_row i j l r ≡ o → AllByRecursion (λ x. key_of x ≡ key_of l) (filter_map (joined_row i j l) rs) → AllByRecursion (λ x. key_of x ≡ key_of l) (cons_option o (filter_map (joined_row i j l) rs))
          by None is rest = rest
          by (Some x) is rest = ((keys_of_joined l r x wide is).left_is, rest)

    rows_sorted : (ls rs : List (List Value)) → AllByRecursion (λ l. length l ≡ width) ls → EachPair IsKeyLess ls → EachPair IsKeyLess rs → IsStrictlySortedBy (row_order width) (joined_rows i j ls rs)
    rows_sorted ls rs wide lless rless =
        sorted_from (row_order width) (joined_rows i j ls rs)
        (pairs_flat Later (λ l. filter_map (joined_row i j l) rs) ls
        (each_of (λ l w. right_sorted l w rs rless) ls wide)
        (pairs_with (λ a b wa wb less.
        across_of Later (λ x y kx ky. key_less width x y (ap (λ k. value_cmp k (key_of y)) kx ∙ ap (value_cmp (key_of a)) ky ∙ less))
        (filter_map (joined_row i j a) rs) (filter_map (joined_row i j b) rs) (heads a wa rs) (heads b wb rs)) ls wide lless))

  live_wide : (bound m : ℕ) (columns : List Column) → length columns ≡ width → (vs : List Version) → AllByRecursion (λ v. is_fitting columns v.row ≡ true) vs → IfSome (live_row m vs) (λ row. length row ≡ width)
  live_wide bound m columns wide [] h = tt
  live_wide bound m columns wide (v ∷ vs) h = elim (is_live m v) as (λ b. IfSome (if b then Some v.row else live_row m vs) (λ row. length row ≡ width)) [
    | true ↦ fitting_length columns v.row h.0 ∙ wide
    | false ↦ live_wide bound m columns wide vs h.1
  ]

  rows_wide : (bound m : ℕ) (columns : List Column) → length columns ≡ width → (ks : List KeyVersions) → AllByRecursion (IsKept bound columns) ks → AllByRecursion (λ l. length l ≡ width) (filter_map (live_key m) ks)
  rows_wide bound m columns wide [] h = tt
  rows_wide bound m columns wide (k ∷ ks) h =
      elim (live_key m k) as (λ o. IfSome o (λ row. length row ≡ width) → AllByRecursion (λ l. length l ≡ width) (cons_option o (filter_map (live_key m) ks))) [
        | None ↦ λ _. rows_wide bound m columns wide ks h.1
        | Some row ↦ λ w. (w, rows_wide bound m columns wide ks h.1)
      ] (live_wide bound m columns wide k.versions h.0.fitting)

  live_pairs : (bound m : ℕ) (t : TableVersions) → IsTable bound t → EachPair IsKeyLess (filter_map (live_key m) t.keys)
  live_pairs bound m t is = key_pairs (filter_map (live_key m) t.keys) (cut_rises value_cmp (λ k. k.key) key_of (live_key m) t.keys is.rising (keys_kept bound m t.keys is.keys))

  both_sorted : (bound m : ℕ) (l r : TableVersions) → IsTable bound l → IsTable bound r → length l.columns ≡ width → (a b : Option (ℕ × Kind)) → IsStrictlySortedBy (row_order width) (joined_by a b (filter_map (live_key m) l.keys) (filter_map (live_key m) r.keys))
  both_sorted bound m l r lis ris wide None b = no_rows width
  both_sorted bound m l r lis ris wide (Some a) None = no_rows width
  both_sorted bound m l r lis ris wide (Some a) (Some b) =
      let some : 1 ≤ length l.columns = some_columns l.columns lis.columns in
      let few : 1 ≤ width = subst (λ (n : ℕ). 1 ≤ n) wide some in
      rows_sorted a.0 b.0 few (filter_map (live_key m) l.keys) (filter_map (live_key m) r.keys) (rows_wide bound m l.columns wide l.keys (each_kept bound l lis)) (live_pairs bound m l lis) (live_pairs bound m r ris)

  live_sorted : (bound m : ℕ) (lc rc : List ℕ) (l r : TableVersions) → IsTable bound l → IsTable bound r → length l.columns ≡ width → IsStrictlySortedBy (row_order width) (joined_tables lc rc (live_table m l) (live_table m r))
  live_sorted bound m lc rc l r lis ris wide = by (nat_le l.created m) (nat_le r.created m)
    where
      by : (x y : Bool) → IsStrictlySortedBy (row_order width) (joined_tables lc rc (if x then Some (table_cut m l) else None) (if y then Some (table_cut m r) else None))
      by false y = no_rows width
      by true false = no_rows width
      by true true = both_sorted bound m l r lis ris wide (column_named lc l.columns) (column_named rc r.columns)

  tables_sorted : (bound m : ℕ) (lc rc : List ℕ) (a b : Option TableVersions) → IfSome a (λ l. IsTable bound l × (length l.columns ≡ width)) → IfSome b (IsTable bound) → IsStrictlySortedBy (row_order width) (joined_tables lc rc (option_and_then (live_table m) a) (option_and_then (live_table m) b))
  tables_sorted bound m lc rc None b ha hb = no_rows width
  tables_sorted bound m lc rc (Some l) None ha hb = without (live_table m l)
    where
      without : (o : Option Table) → IsStrictlySortedBy (row_order width) (joined_tables lc rc o None)
      without None = no_rows width
      without (Some t) = no_rows width
  tables_sorted bound m lc rc (Some l) (Some r) ha hb = live_sorted bound m lc rc l r ha.0 hb ha.1

pub joined_sorted : (all : TablesVersions) → AreTables all → (left lc right rc : List ℕ) (m : ℕ) → IsStrictlySortedBy (row_order (width_of (columns_in all left))) (joined (state_at all m) left lc right rc)
joined_sorted all are left lc right rc m =
    subst (IsStrictlySortedBy (row_order (width_of (columns_in all left)))) (sym (ap (λ o. joined_tables lc rc o (table_of right (state_at all m))) (table_seen all are left m) ∙ ap (λ o. joined_tables lc rc (option_and_then (live_table m) (table_in all left)) o) (table_seen all are right m)))
    (tables_sorted (width_of (columns_in all left)) all.last m lc rc (table_in all left) (table_in all right) (with_width (table_in all left) refl (All-item_at (at_name left) (IsTable all.last) all.tables are.each)) (All-item_at (at_name right) (IsTable all.last) all.tables are.each))
  where
    with_width : (o : Option TableVersions) → table_in all left ≡ o → IfSome o (IsTable all.last) → IfSome o (λ l. IsTable all.last l × (length l.columns ≡ width_of (columns_in all left)))
    with_width None e is = tt
    with_width (Some l) e is = (is, width_is all left l e)

-- The merged pieces of a table's versions are the answer to a select.
use Rattle.std.proofs.Common.{◌≡◌, ℕ, ◌<◌, ◌≤◌, nat_le, nat_lt, max, Bool, true, false, ◌&&◌, if◌then◌else◌, Option, Some, None, IfSome, Result, Ok, List, [], ◌∷◌, ◌++◌, length, map, refl, sym, ap, subst, ◌∙◌, arith}
use Rattle.std.specs.List.{AllByRecursion, filter_map, flat_map, cons_option}
use Rattle.std.specs.Option.{option_map, option_to_list, option_and_then}
use Rattle.std.proofs.lemmas.Bool.Decides.{nat_tests}
use Rattle.std.proofs.lemmas.List.Folds.{flat_map-map}
use Rattle.tuple_bytes.specs.declared.value.Value.{Value}
use Rattle.tuple_bytes.specs.declared.value.Value.TheVariants.{Null}
use Rattle.tuple_bytes.specs.declared.op.Column.{Column}
use Rattle.tuple_bytes.specs.declared.filter.Filter.{Filter}
use Rattle.history_model.specs.declared.change.TableFail.{TableFail}
use Rattle.history_model.specs.Values.{key_of, is_fitting}
use Rattle.asof_query.specs.Filters.{passes, chosen, passing_at, filter_place, rows_of}
use Rattle.tt_table.specs.declared.version.Version.{Version}
use Rattle.tt_table.specs.Versions.{KeyVersions, TableVersions, TablesVersions, IsVersion, IsKey, HaveFittingRows, IsTable, AreTables, KeysRise, live_key, live_table, table_cut, state_at, table_in, at_name, keyed}
use Rattle.tt_table.proofs.Reading.{All-item_at, table_seen}
use Rattle.tt_table.proofs.Times.{versions_of_key}
use Rattle.sequenced_query.specs.declared.piece.Piece.{Piece}
use Rattle.sequenced_query.specs.declared.span.Span.{Span}
use Rattle.sequenced_query.specs.Plain.{rows_or_none, selected}
use Rattle.sequenced_query.specs.Columns.{columns_in, width_of}
use Rattle.sequenced_query.specs.Cut.{rows_during, IsWithin, EachPair, IsCut}
use Rattle.sequenced_query.specs.Merging.{merged}
use Rattle.sequenced_query.specs.Tables.{ShowsTable}
use Rattle.sequenced_query.specs.Cells.{cell, passed_row, select_cells, select_all}
use Rattle.sequenced_query.proofs.Pairs.{each_of, each_both, each_flat, each_always, pairs_with, pairs_flat, Across, across_of}
use Rattle.sequenced_query.proofs.Merged.{IsBefore, merged_cut}
use Rattle.sequenced_query.proofs.Timing.{InCell, cell_in, cell_pairs, cell_rows, rows_flat, rows_outside, Precedes, chain_pairs, live_flat, of_live}
use Rattle.sequenced_query.proofs.Keys.{HasKeys, same_keys, left_below, before_less, before_equal, fitting_length, alone, keys_below}

-- ---- the same answer over another span

pub widened : (width : ℕ) (answer other : ℕ → List (List Value)) (from start to : ℕ) (ps : List Piece) → from ≤ start → IsCut width answer start to ps
    → ((m : ℕ) → start ≤ m → m < to → answer m ≡ other m) → ((m : ℕ) → from ≤ m → m < start → [] ≡ other m) → IsCut width other from to ps
widened width answer other from start to ps le cut same none = record {
  rows = λ m low high. by m low high (nat_le start m) refl;
  within = each_of (λ p w. (omega (arith, w.0), w.1, w.2)) ps cut.within;
  apart = cut.apart;
  rising = cut.rising;
}
  where
    by : (m : ℕ) → from ≤ m → m < to → (b : Bool) → nat_le start m ≡ b → rows_during m ps ≡ other m
    by m after high true e = let low : start ≤ m = grind (arith, nat_tests, e) in cut.rows m low high ∙ same m low high
    by m after high false e =
        let early : m < start = grind (arith, nat_tests, e) in
        let out : (nat_le start m && nat_lt m to) ≡ false = rw e refl in
        rows_outside m start to ps cut.within out ∙ none m after early

pub flat_same : {A B : Type 0} (F G : A → List B) → (xs : List A) → AllByRecursion (λ x. F x ≡ G x) xs → flat_map F xs ≡ flat_map G xs
flat_same F G [] h = refl
flat_same F G (x ∷ xs) h = ap (λ ys. ys ++ flat_map F xs) h.0 ∙ ap (λ ys. G x ++ ys) (flat_same F G xs h.1)

-- what is known of a key of a table
pub record IsKept (m : ℕ) (columns : List Column) (k : KeyVersions) : Type 0 where
  pub is_key : IsKey m k
  pub fitting : HaveFittingRows columns k

pub each_kept : (m : ℕ) (t : TableVersions) → IsTable m t → AllByRecursion (IsKept m t.columns) t.keys
each_kept m t is = each_both (λ k a b. record { is_key = a; fitting = b }) t.keys is.keys is.fitting

module _ (width : ℕ) (span : Span) (place : ℕ) (f : Option Filter) where
  abbrev C : Version → List Piece
  C v = cell span v (passed_row place f v.row)

  abbrev K : KeyVersions → List Piece
  K k = select_cells span place f k.versions

  passed_is : (row got : List Value) → passed_row place f row ≡ Some got → row ≡ got
  passed_is row got e = by (passes place f row) e
    where
      by : (b : Bool) → (if b then Some row else None) ≡ Some got → row ≡ got
      by true e = cc
      by false e = cc

  -- the pieces of a key have this key, and no right one
  record OfKey (k : KeyVersions) (p : Piece) : Type 0 where
    pub within : IsWithin span.from span.to p
    pub keys : HasKeys width k.key Null p.row

  of_version : (m : ℕ) (columns : List Column) (k : KeyVersions) (v : Version) → length columns ≡ width → IsVersion m k.key v → is_fitting columns v.row ≡ true → AllByRecursion (OfKey k) (C v)
  of_version m columns k v wide is fits =
      let long : length v.row ≡ width = fitting_length columns v.row fits ∙ wide in
      each_of (λ p in_cell.
      let row : v.row ≡ p.row = passed_is v.row p.row in_cell.row in
      record {
        within = in_cell.within;
        keys = record {
          left_is = ap key_of (sym row) ∙ is.same_key;
          right_is = subst (λ (r : List Value). length r ≡ width → Rattle.sequenced_query.specs.Cut.right_key width r ≡ Null) row (alone width v.row) (ap length (sym row) ∙ long);
        };
      }) (C v) (cell_in span v (passed_row place f v.row))

  of_key : (m : ℕ) (columns : List Column) (k : KeyVersions) → length columns ≡ width → IsKept m columns k → AllByRecursion (OfKey k) (K k)
  of_key m columns k wide is = each_flat (OfKey k) C k.versions (each_both (λ v a b. of_version m columns k v wide a b) k.versions is.is_key.each is.fitting)

  -- those of two versions of a key, one after the other
  across_versions : (k : KeyVersions) (v w : Version) → AllByRecursion (OfKey k) (C v) → AllByRecursion (OfKey k) (C w) → Precedes v w → Across (IsBefore width) (C v) (C w)
  across_versions k v w kv kw comes =
      across_of (IsBefore width) {P = λ p. InCell span v (passed_row place f v.row) p × OfKey k p} {Q = λ p. InCell span w (passed_row place f w.row) p × OfKey k p}
      (λ p q a b.
      let early : p.stop ≤ comes.0 = subst (λ o. IfSome o (λ s. p.stop ≤ s)) comes.1 a.0.stopped in
      before_equal width p q (same_keys width k.key Null p.row q.row a.1.keys b.1.keys) (omega (arith, early, comes.2, b.0.started)))
      (C v) (C w)
      (each_both (λ p a b. (a, b)) (C v) (cell_in span v (passed_row place f v.row)) kv)
      (each_both (λ p a b. (a, b)) (C w) (cell_in span w (passed_row place f w.row)) kw)

  key_pairs : (m : ℕ) (columns : List Column) (k : KeyVersions) → length columns ≡ width → IsKept m columns k → EachPair (IsBefore width) (K k)
  key_pairs m columns k wide is =
      pairs_flat (IsBefore width) C k.versions
      (each_always (λ v. cell_pairs (IsBefore width) span v (passed_row place f v.row)) k.versions)
      (pairs_with (λ v w a b comes. across_versions k v w a b comes) k.versions
      (each_both (λ v a b. of_version m columns k v wide a b) k.versions is.is_key.each is.fitting)
      (chain_pairs k.versions (versions_of_key m k is.is_key)))

  all_pairs : (m : ℕ) (columns : List Column) (ks : List KeyVersions) → length columns ≡ width → AllByRecursion (IsKept m columns) ks → KeysRise ks → EachPair (IsBefore width) (flat_map K ks)
  all_pairs m columns ks wide each rise =
      pairs_flat (IsBefore width) K ks
      (each_of (λ k is. key_pairs m columns k wide is) ks each)
      (pairs_with (λ a b of_a of_b less. across_of (IsBefore width) (λ p q x y. before_less width p q (left_below width a.key Null p.row q.row b.key Null x.keys y.keys less)) (K a) (K b) of_a of_b) ks
      (each_of (λ k is. of_key m columns k wide is) ks each) (keys_below ks rise))

  all_within : (m : ℕ) (columns : List Column) (ks : List KeyVersions) → length columns ≡ width → AllByRecursion (IsKept m columns) ks → AllByRecursion (IsWithin span.from span.to) (flat_map K ks)
  all_within m columns ks wide each = each_flat (IsWithin span.from span.to) K ks (each_of (λ k is. each_of (λ p o. o.within) (K k) (of_key m columns k wide is)) ks each)

  -- at a moment, the row of a key that passes
  key_rows : (bound : ℕ) (k : KeyVersions) → IsKey bound k → (m : ℕ) → span.from ≤ m → m < span.to → rows_during m (K k) ≡ chosen place f (option_to_list (live_key m k))
  key_rows bound k is m low high =
      rows_flat m C k.versions
      ∙ live_flat m (λ v. rows_during m (C v)) (λ row. option_to_list (passed_row place f row)) k.versions (chain_pairs k.versions (versions_of_key bound k is))
      (each_always (λ v. cell_rows m span v (passed_row place f v.row) low high) k.versions)
      ∙ by (live_key m k)
    where
      by : (o : Option (List Value)) → of_live m (λ v. rows_during m (C v)) (λ row. option_to_list (passed_row place f row)) o ≡ chosen place f (option_to_list o)
      by None = refl
      by (Some row) = elim (passes place f row) as (λ b. option_to_list (if b then Some row else None) ≡ (if b then row ∷ [] else [])) [ true ↦ refl | false ↦ refl ]

  chosen_more : (o : Option (List Value)) (rows : List (List Value)) → chosen place f (cons_option o rows) ≡ chosen place f (option_to_list o) ++ chosen place f rows
  chosen_more None rows = refl
  chosen_more (Some row) rows = elim (passes place f row) as (λ b. (if b then row ∷ chosen place f rows else chosen place f rows) ≡ (if b then row ∷ [] else []) ++ chosen place f rows) [ true ↦ refl | false ↦ refl ]

  keys_rows : (bound : ℕ) (ks : List KeyVersions) → AllByRecursion (IsKey bound) ks → (m : ℕ) → span.from ≤ m → m < span.to → rows_during m (flat_map K ks) ≡ chosen place f (filter_map (live_key m) ks)
  keys_rows bound ks each m low high = rows_flat m K ks ∙ by ks each
    where
      by : (ks : List KeyVersions) → AllByRecursion (IsKey bound) ks → flat_map (λ k. rows_during m (K k)) ks ≡ chosen place f (filter_map (live_key m) ks)
      by [] each = refl
      by (k ∷ ks) each =
          ap (λ rows. rows ++ flat_map (λ k. rows_during m (K k)) ks) (key_rows bound k each.0 m low high)
          ∙ ap (λ rows. chosen place f (option_to_list (live_key m k)) ++ rows) (by ks each.1)
          ∙ sym (chosen_more (live_key m k) (filter_map (live_key m) ks))

  -- the pieces of a table
  pub table_cells : (bound : ℕ) (t : TableVersions) → IsTable bound t → length t.columns ≡ width → IsCut width (λ m. chosen place f (filter_map (live_key m) t.keys)) span.from span.to (merged (select_all span place f (map (λ k. k.versions) t.keys)))
  table_cells bound t is wide =
      let kept = each_kept bound t is in
      let same : flat_map K t.keys ≡ select_all span place f (map (λ k. k.versions) t.keys) = sym (flat_map-map (select_cells span place f) (λ k. k.versions) t.keys) in
      subst (λ cells. IsCut width (λ m. chosen place f (filter_map (live_key m) t.keys)) span.from span.to (merged cells)) same
      (widened width (λ m. rows_during m (flat_map K t.keys)) (λ m. chosen place f (filter_map (live_key m) t.keys)) span.from span.from span.to (merged (flat_map K t.keys)) (omega arith)
      (merged_cut width span.from span.to (flat_map K t.keys) (all_within bound t.columns t.keys wide kept) (all_pairs bound t.columns t.keys wide kept is.rising))
      (λ m low high. keys_rows bound t.keys is.keys m low high) (λ m low early. absurd (omega arith)))

-- ---- the answer at a moment, from the table that is kept

passing_ok : (columns : List Column) (place : ℕ) (f : Option Filter) (rows : List (List Value)) → Ok place ≡ filter_place columns f → rows_or_none (passing_at f rows (filter_place columns f)) ≡ chosen place f rows
passing_ok columns place f rows e = ap (λ (r : Result ℕ TableFail). rows_or_none (passing_at f rows r)) (sym e)

rows_live : (place : ℕ) (f : Option Filter) (t : TableVersions) → Ok place ≡ filter_place t.columns f → (m : ℕ) → t.created ≤ m → rows_or_none (rows_of f (live_table m t)) ≡ chosen place f (filter_map (live_key m) t.keys)
rows_live place f t e m le =
    let there : nat_le t.created m ≡ true = grind (arith, nat_tests) in
    ap (λ (b : Bool). rows_or_none (rows_of f (if b then Some (table_cut m t) else None))) there ∙ passing_ok t.columns place f (filter_map (live_key m) t.keys) e

rows_before : (f : Option Filter) (t : TableVersions) (m : ℕ) → m < t.created → [] ≡ rows_or_none (rows_of f (live_table m t))
rows_before f t m lt = let none : nat_le t.created m ≡ false = grind (arith, nat_tests) in sym (ap (λ (b : Bool). rows_or_none (rows_of f (if b then Some (table_cut m t) else None))) none)

pub kept_versions : (es : List (Value × List Version)) → map (λ k. k.1) es ≡ map (λ k. k.versions) (map keyed es)
kept_versions [] = refl
kept_versions (e ∷ es) = ap (λ vs. e.1 ∷ vs) (kept_versions es)

pub width_is : (all : TablesVersions) (name : List ℕ) (t : TableVersions) → table_in all name ≡ Some t → length t.columns ≡ width_of (columns_in all name)
width_is all name t e = sym (ap (λ o. width_of (option_map (λ (x : TableVersions). x.columns) o)) e)

module _ (all : TablesVersions) (are : AreTables all) (name : List ℕ) (f : Option Filter) (from to place : ℕ) where
  abbrev answer : ℕ → List (List Value)
  answer m = selected (state_at all m) name f

  answer_is : (t : TableVersions) → table_in all name ≡ Some t → (m : ℕ) → answer m ≡ rows_or_none (rows_of f (live_table m t))
  answer_is t e m = ap (λ o. rows_or_none (rows_of f o)) (table_seen all are name m ∙ ap (option_and_then (live_table m)) e)

  with_table : (t : TableVersions) → table_in all name ≡ Some t → Ok place ≡ filter_place t.columns f
      → IsCut (width_of (columns_in all name)) answer from to (merged (select_all (record { from = max from t.created; to = to }) place f (map (λ k. k.versions) t.keys)))
  with_table t e fits =
      let is : IsTable all.last t = subst (λ o. IfSome o (IsTable all.last)) e (All-item_at (at_name name) (IsTable all.last) all.tables are.each) in
      let wide : length t.columns ≡ width_of (columns_in all name) = width_is all name t e in
      widened (width_of (columns_in all name)) (λ m. chosen place f (filter_map (live_key m) t.keys)) answer from (max from t.created) to _ (omega arith)
      (table_cells (width_of (columns_in all name)) (record { from = max from t.created; to = to }) place f all.last t is wide)
      (λ m low high. sym (answer_is t e m ∙ rows_live place f t fits m (omega arith)))
      (λ m low early. rows_before f t m (omega arith) ∙ sym (answer_is t e m))

  pub select_cut : (columns : List Column) (created start : ℕ) (keys : List (Value × List Version)) (ps : List Piece)
      → ShowsTable columns created keys (table_in all name) → Ok place ≡ filter_place columns f → start ≡ max from created → ps ≡ merged (select_all (record { from = start; to = to }) place f (map (λ k. k.1) keys)) → IsCut (width_of (columns_in all name)) answer from to ps
  select_cut columns created start keys ps shows fits es is = by (table_in all name) refl shows.columns shows.made shows.keys
    where
      by : (o : Option TableVersions) → table_in all name ≡ o → Some columns ≡ option_map (λ t. t.columns) o → Some created ≡ option_map (λ t. t.created) o → Some (map keyed keys) ≡ option_map (λ t. t.keys) o → IsCut (width_of (columns_in all name)) answer from to ps
      by None e ec et ek = cc
      by (Some t) e ec et ek =
          let here : columns ≡ t.columns = cc in
          let made : created ≡ t.created = cc in
          let kept : map keyed keys ≡ t.keys = cc in
          let same : merged (select_all (record { from = max from t.created; to = to }) place f (map (λ k. k.versions) t.keys)) ≡ ps =
          ap (λ ks. merged (select_all (record { from = max from t.created; to = to }) place f (map (λ (k : KeyVersions). k.versions) ks))) (sym kept)
          ∙ ap (λ vs. merged (select_all (record { from = max from t.created; to = to }) place f vs)) (sym (kept_versions keys))
          ∙ ap (λ (s : ℕ). merged (select_all (record { from = s; to = to }) place f (map (λ k. k.1) keys))) (ap (max from) (sym made) ∙ sym es) ∙ sym is in
          subst (IsCut (width_of (columns_in all name)) answer from to) same (with_table t e (fits ∙ ap (λ cs. filter_place cs f) here))

-- The merged pieces of two tables' versions are the answer to a join.
use Rattle.std.proofs.Common.{◌≡◌, ℕ, ◌+◌, Ok, Err, ◌<◌, ◌≤◌, nat_le, nat_lt, max, Bool, true, false, ◌&&◌, if◌then◌else◌, Option, Some, None, IfSome, List, [], ◌∷◌, ◌++◌, length, slice_get, map, refl, sym, ap, subst, ◌∙◌, arith}
use Rattle.std.specs.List.{AllByRecursion, filter_map, flat_map, cons_option}
use Rattle.std.specs.Option.{option_to_list, option_and_then}
use Rattle.std.proofs.lemmas.Bool.Decides.{nat_tests}
use Rattle.std.proofs.lemmas.List.Folds.{flat_map-map}
use Rattle.tuple_bytes.specs.declared.value.Value.{Value}
use Rattle.tuple_bytes.specs.declared.op.Column.{Column}
use Rattle.tuple_bytes.specs.declared.op.Kind.{Kind}
use Rattle.history_model.specs.State.{Table, table_of}
use Rattle.history_model.specs.Values.{is_fitting, are_columns, have_distinct_names}
use Rattle.tuple_bytes.specs.Limits.{max_columns}
use Rattle.sequenced_query.specs.declared.join.Places.{Places}
use Rattle.sequenced_query.specs.declared.error.OverFail.TheVariants.{BadType}
use Rattle.sequenced_query.specs.Refusals.{same_kind, joining_places}
use Rattle.sequenced_query.specs.Tables.{ShowsTable}
use Rattle.tt_table.specs.declared.version.Version.{Version}
use Rattle.tt_table.specs.Versions.{KeyVersions, TableVersions, TablesVersions, IsVersion, IsTable, AreTables, KeysRise, is_live, live_key, live_table, table_cut, state_at, table_in, at_name, keyed}
use Rattle.tt_table.proofs.Reading.{All-item_at, table_seen}
use Rattle.tt_table.proofs.Times.{versions_of_key}
use Rattle.sequenced_query.specs.declared.piece.Piece.{Piece}
use Rattle.sequenced_query.specs.declared.span.Span.{Span}
use Rattle.sequenced_query.specs.Plain.{are_joining, joined_row, joined_rows, joined_by, joined_tables, joined, column_named}
use Rattle.sequenced_query.specs.Columns.{columns_in, width_of}
use Rattle.sequenced_query.specs.Cut.{rows_during, IsWithin, EachPair, IsCut}
use Rattle.sequenced_query.specs.Merging.{merged}
use Rattle.sequenced_query.specs.Cells.{part_of, cell, join_in, join_cells, join_key, join_all}
use Rattle.sequenced_query.proofs.Pairs.{each_of, each_both, each_flat, each_always, pairs_with, pairs_flat, across_of}
use Rattle.sequenced_query.proofs.Merged.{IsBefore, merged_cut}
use Rattle.sequenced_query.proofs.Timing.{InCell, cell_in, cell_pairs, cell_rows, rows_flat, rows_outside, chain_pairs, live_flat, of_live, part_start, part_stop, stop_low, stop_by, begun_is, before_is}
use Rattle.sequenced_query.proofs.Keys.{HasKeys, same_keys, left_below, right_below, before_less, before_equal, fitting_length, joined_keys, keys_below}
use Rattle.sequenced_query.proofs.SelectCut.{widened, flat_same, IsKept, each_kept, kept_versions, width_is}

-- ---- a version's part of a span

-- what the part is
record IsPart (span : Span) (v : Version) (part : Span) : Type 0 where
  pub low : span.from ≤ part.from
  pub begun : v.start ≤ part.from
  pub high : part.to ≤ span.to
  pub ended : IfSome v.stop (λ s. part.to ≤ s)

part_is : (span : Span) (v : Version) → IfSome (part_of span v) (IsPart span v)
part_is span v = elim (nat_lt (part_start span v) (part_stop span v)) as (λ b. IfSome (if b then Some (record { from = part_start span v; to = part_stop span v }) else None) (IsPart span v)) [
  | true ↦ record { low = omega arith; begun = omega arith; high = stop_low span.to v.stop; ended = stop_by span.to v.stop }
  | false ↦ tt
]

-- the moments of the part are those at which the version is live
part_live : (span : Span) (v : Version) (m : ℕ) → span.from ≤ m → m < span.to → (nat_le (part_start span v) m && nat_lt m (part_stop span v)) ≡ is_live m v
part_live span v m low high =
    ap (λ (x : Bool). x && nat_lt m (part_stop span v)) (begun_is m span.from v.start low) ∙ ap (λ (y : Bool). nat_le v.start m && y) (before_is m span.to v.stop high)

module _ (width i j : ℕ) where
  pub joined_is : (l r got : List Value) → joined_row i j l r ≡ Some got → l ++ r ≡ got
  joined_is l r got e = by (are_joining (slice_get l i) (slice_get r j)) e
    where
      by : (b : Bool) → (if b then Some (l ++ r) else None) ≡ Some got → l ++ r ≡ got
      by true e = cc
      by false e = cc

  -- ---- the rows of a moment, key by key

  right_more : (m : ℕ) (l : List Value) (o : Option (List Value)) (rows : List (List Value))
      → of_live m (λ w. []) (λ r. option_to_list (joined_row i j l r)) o ++ filter_map (joined_row i j l) rows ≡ filter_map (joined_row i j l) (cons_option o rows)
  right_more m l None rows = refl
  right_more m l (Some r) rows = elim (joined_row i j l r) as (λ g. option_to_list g ++ filter_map (joined_row i j l) rows ≡ cons_option g (filter_map (joined_row i j l) rows)) [ None ↦ refl | Some x ↦ refl ]

  right_rows : (m : ℕ) (o : Option (List Value)) (ks : List KeyVersions)
      → flat_map (λ rk. of_live m (λ w. []) (λ l. of_live m (λ w. []) (λ r. option_to_list (joined_row i j l r)) (live_key m rk)) o) ks ≡ of_live m (λ w. []) (λ l. filter_map (joined_row i j l) (filter_map (live_key m) ks)) o
  right_rows m None [] = refl
  right_rows m None (k ∷ ks) = right_rows m None ks
  right_rows m (Some l) [] = refl
  right_rows m (Some l) (k ∷ ks) =
      ap (λ (rest : List (List Value)). of_live m (λ w. []) (λ r. option_to_list (joined_row i j l r)) (live_key m k) ++ rest) (right_rows m (Some l) ks)
      ∙ right_more m l (live_key m k) (filter_map (live_key m) ks)

  left_more : (m : ℕ) (G : List Value → List (List Value)) (o : Option (List Value)) (rows : List (List Value)) → of_live m (λ w. []) G o ++ flat_map G rows ≡ flat_map G (cons_option o rows)
  left_more m G None rows = refl
  left_more m G (Some l) rows = refl

  left_rows_of : (m : ℕ) (G : List Value → List (List Value)) (ks : List KeyVersions) → flat_map (λ lk. of_live m (λ w. []) G (live_key m lk)) ks ≡ flat_map G (filter_map (live_key m) ks)
  left_rows_of m G [] = refl
  left_rows_of m G (k ∷ ks) = ap (λ (rest : List (List Value)). of_live m (λ w. []) G (live_key m k) ++ rest) (left_rows_of m G ks) ∙ left_more m G (live_key m k) (filter_map (live_key m) ks)

  -- ---- a left key with a right key

  module _ (span : Span) (bound : ℕ) (columns others : List Column) (lk rk : KeyVersions) (wide : length columns ≡ width) (few : 1 ≤ width) (lis : IsKept bound columns lk) (ris : IsKept bound others rk) where
    -- the pieces of two keys have these keys
    pub record OfPair (p : Piece) : Type 0 where
      pub within : IsWithin span.from span.to p
      pub keys : HasKeys width lk.key rk.key p.row

    abbrev E : Span → List Value → Version → List Piece
    E part row w = cell part w (joined_row i j row w.row)

    abbrev D : Version → List Piece
    D v = join_in i j v.row rk.versions (part_of span v)

    keys_are : (v w : Version) → IsVersion bound lk.key v → is_fitting columns v.row ≡ true → IsVersion bound rk.key w → (row : List Value) → joined_row i j v.row w.row ≡ Some row → HasKeys width lk.key rk.key row
    keys_are v w a fits b row e =
        let both = joined_keys width v.row w.row (fitting_length columns v.row fits ∙ wide) few in
        let got : v.row ++ w.row ≡ row = joined_is v.row w.row row e in
        subst (HasKeys width lk.key rk.key) got (record { left_is = both.left_is ∙ a.same_key; right_is = both.right_is ∙ b.same_key })

    -- during a left version
    record During (v : Version) (p : Piece) : Type 0 where
      pub started : v.start ≤ p.start
      pub stopped : IfSome v.stop (λ s. p.stop ≤ s)
      pub of_pair : OfPair p

    until : (o : Option ℕ) (a b : ℕ) → a ≤ b → IfSome o (λ s. b ≤ s) → IfSome o (λ s. a ≤ s)
    until None a b le h = tt
    until (Some s) a b le h = omega (arith, h)

    of_cell : (v w : Version) (part : Span) → IsPart span v part → IsVersion bound lk.key v → is_fitting columns v.row ≡ true → IsVersion bound rk.key w → AllByRecursion (During v) (E part v.row w)
    of_cell v w part is a fits b =
        each_of (λ p c. record {
          started = omega (arith, is.begun, c.within.0);
          stopped = until v.stop p.stop part.to c.within.2 is.ended;
          of_pair = record { within = (omega (arith, is.low, c.within.0), c.within.1, omega (arith, is.high, c.within.2)); keys = keys_are v w a fits b p.row c.row };
        }) (E part v.row w) (cell_in part w (joined_row i j v.row w.row))

    of_left : (v : Version) → IsVersion bound lk.key v → is_fitting columns v.row ≡ true → AllByRecursion (During v) (D v)
    of_left v a fits = by (part_of span v) (part_is span v)
      where
        by : (o : Option Span) → IfSome o (IsPart span v) → AllByRecursion (During v) (join_in i j v.row rk.versions o)
        by None is = tt
        by (Some part) is = each_flat (During v) (E part v.row) rk.versions (each_of (λ w b. of_cell v w part is a fits b) rk.versions ris.is_key.each)

    pub of_pair : AllByRecursion OfPair (join_cells span i j lk.versions rk.versions)
    of_pair = each_flat OfPair D lk.versions (each_both (λ v a fits. each_of (λ p d. d.of_pair) (D v) (of_left v a fits)) lk.versions lis.is_key.each lis.fitting)

    by_time : (p q : Piece) → OfPair p → OfPair q → p.stop ≤ q.start → IsBefore width p q
    by_time p q a b le = before_equal width p q (same_keys width lk.key rk.key p.row q.row a.keys b.keys) le

    -- those of one left version, one right version after another
    right_pairs : (v : Version) (part : Span) → IsPart span v part → IsVersion bound lk.key v → is_fitting columns v.row ≡ true → EachPair (IsBefore width) (flat_map (E part v.row) rk.versions)
    right_pairs v part is a fits =
        pairs_flat (IsBefore width) (E part v.row) rk.versions
        (each_always (λ w. cell_pairs (IsBefore width) part w (joined_row i j v.row w.row)) rk.versions)
        (pairs_with (λ w x b c comes.
        across_of (IsBefore width) {P = λ p. InCell part w (joined_row i j v.row w.row) p × During v p} {Q = λ p. InCell part x (joined_row i j v.row x.row) p × During v p}
        (λ p q d e.
        let early : p.stop ≤ comes.0 = subst (λ o. IfSome o (λ s. p.stop ≤ s)) comes.1 d.0.stopped in
        by_time p q d.1.of_pair e.1.of_pair (omega (arith, early, comes.2, e.0.started)))
        (E part v.row w) (E part v.row x)
        (each_both (λ p d e. (d, e)) (E part v.row w) (cell_in part w (joined_row i j v.row w.row)) (of_cell v w part is a fits b))
        (each_both (λ p d e. (d, e)) (E part v.row x) (cell_in part x (joined_row i j v.row x.row)) (of_cell v x part is a fits c)))
        rk.versions ris.is_key.each (chain_pairs rk.versions (versions_of_key bound rk ris.is_key)))

    left_pairs : (v : Version) → IsVersion bound lk.key v → is_fitting columns v.row ≡ true → EachPair (IsBefore width) (D v)
    left_pairs v a fits = by (part_of span v) (part_is span v)
      where
        by : (o : Option Span) → IfSome o (IsPart span v) → EachPair (IsBefore width) (join_in i j v.row rk.versions o)
        by None is = tt
        by (Some part) is = right_pairs v part is a fits

    pub pair_pairs : EachPair (IsBefore width) (join_cells span i j lk.versions rk.versions)
    pair_pairs =
        pairs_flat (IsBefore width) D lk.versions
        (each_both (λ v a fits. left_pairs v a fits) lk.versions lis.is_key.each lis.fitting)
        (pairs_with (λ v w a b comes.
        across_of (IsBefore width) (λ p q d e.
        let early : p.stop ≤ comes.0 = subst (λ o. IfSome o (λ s. p.stop ≤ s)) comes.1 d.stopped in
        by_time p q d.of_pair e.of_pair (omega (arith, early, comes.2, e.started)))
        (D v) (D w) a b)
        lk.versions (each_both (λ v a fits. of_left v a fits) lk.versions lis.is_key.each lis.fitting) (chain_pairs lk.versions (versions_of_key bound lk lis.is_key)))

    -- ---- the row of a moment

    abbrev of_right : ℕ → List Value → List (List Value)
    of_right m l = of_live m (λ w. []) (λ r. option_to_list (joined_row i j l r)) (live_key m rk)

    part_rows : (m : ℕ) (v : Version) (part : Span) → IsPart span v part → part.from ≤ m → m < part.to → rows_during m (flat_map (E part v.row) rk.versions) ≡ of_right m v.row
    part_rows m v part is low high =
        rows_flat m (E part v.row) rk.versions
        ∙ live_flat m (λ w. rows_during m (E part v.row w)) (λ r. option_to_list (joined_row i j v.row r)) rk.versions (chain_pairs rk.versions (versions_of_key bound rk ris.is_key))
        (each_always (λ w. cell_rows m part w (joined_row i j v.row w.row) low high) rk.versions)
        ∙ same (live_key m rk)
      where
        same : (o : Option (List Value)) → of_live m (λ w. rows_during m (E part v.row w)) (λ r. option_to_list (joined_row i j v.row r)) o ≡ of_live m (λ w. []) (λ r. option_to_list (joined_row i j v.row r)) o
        same None = refl
        same (Some r) = refl

    abbrev whole_part : Version → Span
    whole_part v = record { from = part_start span v; to = part_stop span v }

    left_rows : (m : ℕ) (v : Version) → IsVersion bound lk.key v → is_fitting columns v.row ≡ true → span.from ≤ m → m < span.to → rows_during m (D v) ≡ (if is_live m v then of_right m v.row else [])
    left_rows m v a fits low high = by (nat_lt (part_start span v) (part_stop span v)) refl (is_live m v) refl
      where
        both : (x y : Bool) → (x && y) ≡ true → (x ≡ true) × (y ≡ true)
        both true y e = (refl, e)
        both false y e = cc

        is_part : IsPart span v (whole_part v)
        is_part = record { low = omega arith; begun = omega arith; high = stop_low span.to v.stop; ended = stop_by span.to v.stop }

        by : (b : Bool) → nat_lt (part_start span v) (part_stop span v) ≡ b → (x : Bool) → is_live m v ≡ x → rows_during m (join_in i j v.row rk.versions (if b then Some (whole_part v) else None)) ≡ (if x then of_right m v.row else [])
        by true e true live =
            let at = both (nat_le (part_start span v) m) (nat_lt m (part_stop span v)) (part_live span v m low high ∙ live) in
            let from_here : part_start span v ≤ m = grind (arith, nat_tests, at.0) in
            let to_there : m < part_stop span v = grind (arith, nat_tests, at.1) in
            part_rows m v (whole_part v) is_part from_here to_there
        by true e false live =
            rows_outside m (part_start span v) (part_stop span v) (flat_map (E (whole_part v) v.row) rk.versions)
            (each_flat (IsWithin (part_start span v) (part_stop span v)) (E (whole_part v) v.row) rk.versions (each_always (λ w. each_of (λ p c. c.within) (E (whole_part v) v.row w) (cell_in (whole_part v) w (joined_row i j v.row w.row))) rk.versions))
            (part_live span v m low high ∙ live)
        by false e false live = refl
        by false e true live =
            let at = both (nat_le (part_start span v) m) (nat_lt m (part_stop span v)) (part_live span v m low high ∙ live) in
            let filled : nat_lt (part_start span v) (part_stop span v) ≡ true = grind (arith, nat_tests, at.0, at.1) in
            cc

    pub pair_rows : (m : ℕ) → span.from ≤ m → m < span.to → rows_during m (join_cells span i j lk.versions rk.versions) ≡ of_live m (λ w. []) (of_right m) (live_key m lk)
    pair_rows m low high =
        rows_flat m D lk.versions
        ∙ live_flat m (λ v. rows_during m (D v)) (of_right m) lk.versions (chain_pairs lk.versions (versions_of_key bound lk lis.is_key))
        (each_both (λ v a fits. left_rows m v a fits low high) lk.versions lis.is_key.each lis.fitting)
        ∙ same (live_key m lk)
      where
        same : (o : Option (List Value)) → of_live m (λ v. rows_during m (D v)) (of_right m) o ≡ of_live m (λ w. []) (of_right m) o
        same None = refl
        same (Some r) = refl

  -- ---- all keys

  module _ (span : Span) (bound : ℕ) (columns others : List Column) (wide : length columns ≡ width) (few : 1 ≤ width) (rks : List KeyVersions) (reach : AllByRecursion (IsKept bound others) rks) (rise : KeysRise rks) where
    abbrev P : KeyVersions → KeyVersions → List Piece
    P lk rk = join_cells span i j lk.versions rk.versions

    abbrev L : KeyVersions → List Piece
    L lk = flat_map (P lk) rks

    -- the pieces of a left key
    record OfLeft (lk : KeyVersions) (p : Piece) : Type 0 where
      pub within : IsWithin span.from span.to p
      pub right : Value
      pub keys : HasKeys width lk.key right p.row

    module _ (lk : KeyVersions) (lis : IsKept bound columns lk) where
      of_left_key : AllByRecursion (OfLeft lk) (L lk)
      of_left_key = each_flat (OfLeft lk) (P lk) rks
          (each_of (λ rk ris. each_of (λ p o. record { within = o.within; right = rk.key; keys = o.keys }) (P lk rk) (of_pair span bound columns others lk rk wide few lis ris)) rks reach)

      left_key_pairs : EachPair (IsBefore width) (L lk)
      left_key_pairs =
          pairs_flat (IsBefore width) (P lk) rks
          (each_of (λ rk ris. pair_pairs span bound columns others lk rk wide few lis ris) rks reach)
          (pairs_with (λ a b ais bis less.
          across_of (IsBefore width) (λ p q x y. before_less width p q (right_below width lk.key a.key p.row q.row b.key x.keys y.keys less)) (P lk a) (P lk b)
          (of_pair span bound columns others lk a wide few lis ais) (of_pair span bound columns others lk b wide few lis bis))
          rks reach (keys_below rks rise))

      left_key_rows : (m : ℕ) → span.from ≤ m → m < span.to → rows_during m (L lk) ≡ of_live m (λ w. []) (λ l. filter_map (joined_row i j l) (filter_map (live_key m) rks)) (live_key m lk)
      left_key_rows m low high =
          rows_flat m (P lk) rks
          ∙ flat_same (λ rk. rows_during m (P lk rk)) (λ rk. of_live m (λ w. []) (λ l. of_live m (λ w. []) (λ r. option_to_list (joined_row i j l r)) (live_key m rk)) (live_key m lk)) rks
          (each_of (λ rk ris. pair_rows span bound columns others lk rk wide few lis ris m low high) rks reach)
          ∙ right_rows m (live_key m lk) rks

    module _ (lks : List KeyVersions) (lreach : AllByRecursion (IsKept bound columns) lks) (lrise : KeysRise lks) where
      all_within : AllByRecursion (IsWithin span.from span.to) (flat_map L lks)
      all_within = each_flat (IsWithin span.from span.to) L lks (each_of (λ lk lis. each_of (λ p o. o.within) (L lk) (of_left_key lk lis)) lks lreach)

      all_pairs : EachPair (IsBefore width) (flat_map L lks)
      all_pairs =
          pairs_flat (IsBefore width) L lks
          (each_of (λ lk lis. left_key_pairs lk lis) lks lreach)
          (pairs_with (λ a b ais bis less.
          across_of (IsBefore width) (λ p q x y. before_less width p q (left_below width a.key x.right p.row q.row b.key y.right x.keys y.keys less)) (L a) (L b) (of_left_key a ais) (of_left_key b bis))
          lks lreach (keys_below lks lrise))

      all_rows : (m : ℕ) → span.from ≤ m → m < span.to → rows_during m (flat_map L lks) ≡ joined_rows i j (filter_map (live_key m) lks) (filter_map (live_key m) rks)
      all_rows m low high =
          rows_flat m L lks
          ∙ flat_same (λ lk. rows_during m (L lk)) (λ lk. of_live m (λ w. []) (λ l. filter_map (joined_row i j l) (filter_map (live_key m) rks)) (live_key m lk)) lks (each_of (λ lk lis. left_key_rows lk lis m low high) lks lreach)
          ∙ left_rows_of m (λ l. filter_map (joined_row i j l) (filter_map (live_key m) rks)) lks

      same_cells : flat_map L lks ≡ join_all span i j (map (λ k. k.versions) lks) (map (λ k. k.versions) rks)
      same_cells =
          flat_same L (λ lk. join_key span i j (map (λ k. k.versions) rks) lk.versions) lks (each_always (λ lk. sym (flat_map-map (join_cells span i j lk.versions) (λ k. k.versions) rks)) lks)
          ∙ sym (flat_map-map (join_key span i j (map (λ k. k.versions) rks)) (λ k. k.versions) lks)

      -- the pieces of two tables
      pub tables_cells : IsCut width (λ m. joined_rows i j (filter_map (live_key m) lks) (filter_map (live_key m) rks)) span.from span.to (merged (join_all span i j (map (λ k. k.versions) lks) (map (λ k. k.versions) rks)))
      tables_cells =
          subst (λ cells. IsCut width (λ m. joined_rows i j (filter_map (live_key m) lks) (filter_map (live_key m) rks)) span.from span.to (merged cells)) same_cells
          (widened width (λ m. rows_during m (flat_map L lks)) (λ m. joined_rows i j (filter_map (live_key m) lks) (filter_map (live_key m) rks)) span.from span.from span.to (merged (flat_map L lks)) (omega arith)
          (merged_cut width span.from span.to (flat_map L lks) all_within all_pairs)
          (λ m low high. all_rows m low high) (λ m low early. absurd (omega arith)))

-- ---- the answer at a moment, from the tables that are kept

and_first : (a b : Bool) → (a && b) ≡ true → a ≡ true
and_first true b e = refl
and_first false b e = cc

pub some_columns : (columns : List Column) → are_columns columns ≡ true → 1 ≤ length columns
some_columns columns e =
    let a = and_first (nat_le 1 (length columns) && nat_le (length columns) max_columns) (have_distinct_names columns) e in
    let b = and_first (nat_le 1 (length columns)) (nat_le (length columns) max_columns) a in
    grind (arith, nat_tests, b)

module _ (left_column right_column : List ℕ) (l r : TableVersions) (places : Places) (fits : Ok places ≡ joining_places (column_named left_column l.columns) (column_named right_column r.columns)) (m : ℕ) where
  joined_at : (ls rs : List (List Value)) → (a b : Option (ℕ × Kind)) → Ok places ≡ joining_places a b → joined_by a b ls rs ≡ joined_rows places.left places.right ls rs
  joined_at ls rs None b e = cc
  joined_at ls rs (Some a) None e = cc
  joined_at ls rs (Some a) (Some b) e = by (same_kind a.1 b.1) e
    where
      by : (x : Bool) → Ok places ≡ (if x then Ok (record { left = a.0; right = b.0 }) else Err (BadType (b.0 + 1))) → joined_rows a.0 b.0 ls rs ≡ joined_rows places.left places.right ls rs
      by true e = let same : places ≡ record { left = a.0; right = b.0 } = cc in sym (ap (λ (p : Places). joined_rows p.left p.right ls rs) same)
      by false e = cc

  both_live : l.created ≤ m → r.created ≤ m → joined_tables left_column right_column (live_table m l) (live_table m r) ≡ joined_rows places.left places.right (filter_map (live_key m) l.keys) (filter_map (live_key m) r.keys)
  both_live lle rle =
      let a : nat_le l.created m ≡ true = grind (arith, nat_tests) in
      let b : nat_le r.created m ≡ true = grind (arith, nat_tests) in
      ap (λ (x : Bool). joined_tables left_column right_column (if x then Some (table_cut m l) else None) (live_table m r)) a
      ∙ ap (λ (x : Bool). joined_tables left_column right_column (Some (table_cut m l)) (if x then Some (table_cut m r) else None)) b
      ∙ joined_at (filter_map (live_key m) l.keys) (filter_map (live_key m) r.keys) (column_named left_column l.columns) (column_named right_column r.columns) fits

  none_with : (o : Option Table) → joined_tables left_column right_column o None ≡ []
  none_with None = refl
  none_with (Some t) = refl

  one_early : m < max l.created r.created → [] ≡ joined_tables left_column right_column (live_table m l) (live_table m r)
  one_early lt = by (nat_le l.created m) refl
    where
      by : (x : Bool) → nat_le l.created m ≡ x → [] ≡ joined_tables left_column right_column (live_table m l) (live_table m r)
      by false e = sym (ap (λ (b : Bool). joined_tables left_column right_column (if b then Some (table_cut m l) else None) (live_table m r)) e)
      by true e =
          let b : nat_le r.created m ≡ false = grind (arith, nat_tests, e, lt) in
          sym (ap (λ (x : Bool). joined_tables left_column right_column (live_table m l) (if x then Some (table_cut m r) else None)) b ∙ none_with (live_table m l))

module _ (all : TablesVersions) (are : AreTables all) (left left_column right right_column : List ℕ) (from to : ℕ) (places : Places) where
  abbrev answer : ℕ → List (List Value)
  answer m = joined (state_at all m) left left_column right right_column

  table_is : (name : List ℕ) (t : TableVersions) → table_in all name ≡ Some t → IsTable all.last t
  table_is name t e = subst (λ o. IfSome o (IsTable all.last)) e (All-item_at (at_name name) (IsTable all.last) all.tables are.each)

  seen : (name : List ℕ) (t : TableVersions) → table_in all name ≡ Some t → (m : ℕ) → table_of name (state_at all m) ≡ live_table m t
  seen name t e m = table_seen all are name m ∙ ap (option_and_then (live_table m)) e

  module _ (l r : TableVersions) (el : table_in all left ≡ Some l) (er : table_in all right ≡ Some r) (fits : Ok places ≡ joining_places (column_named left_column l.columns) (column_named right_column r.columns)) where
    answer_is : (m : ℕ) → answer m ≡ joined_tables left_column right_column (live_table m l) (live_table m r)
    answer_is m = ap (λ o. joined_tables left_column right_column o (table_of right (state_at all m))) (seen left l el m) ∙ ap (λ o. joined_tables left_column right_column (live_table m l) o) (seen right r er m)

    with_tables : IsCut (width_of (columns_in all left)) answer from to (merged (join_all (record { from = max (max from l.created) r.created; to = to }) places.left places.right (map (λ k. k.versions) l.keys) (map (λ k. k.versions) r.keys)))
    with_tables =
        let lis : IsTable all.last l = table_is left l el in
        let ris : IsTable all.last r = table_is right r er in
        let wide : length l.columns ≡ width_of (columns_in all left) = width_is all left l el in
        let some : 1 ≤ length l.columns = some_columns l.columns lis.columns in
        let few : 1 ≤ width_of (columns_in all left) = subst (λ (n : ℕ). 1 ≤ n) wide some in
        widened (width_of (columns_in all left)) (λ m. joined_rows places.left places.right (filter_map (live_key m) l.keys) (filter_map (live_key m) r.keys)) answer from (max (max from l.created) r.created) to _ (omega arith)
        (tables_cells (width_of (columns_in all left)) places.left places.right (record { from = max (max from l.created) r.created; to = to }) all.last l.columns r.columns wide few r.keys (each_kept all.last r ris) ris.rising l.keys (each_kept all.last l lis) lis.rising)
        (λ m low high. sym (answer_is m ∙ both_live left_column right_column l r places fits m (omega arith) (omega arith)))
        (λ m low early. one_early left_column right_column l r places fits m (omega arith) ∙ sym (answer_is m))

  pub join_cut : (lcs rcs : List Column) (lmade rmade start : ℕ) (lkeys rkeys : List (Value × List Version)) (ps : List Piece)
      → ShowsTable lcs lmade lkeys (table_in all left) → ShowsTable rcs rmade rkeys (table_in all right)
      → Ok places ≡ joining_places (column_named left_column lcs) (column_named right_column rcs) → start ≡ max (max from lmade) rmade
      → ps ≡ merged (join_all (record { from = start; to = to }) places.left places.right (map (λ k. k.1) lkeys) (map (λ k. k.1) rkeys)) → IsCut (width_of (columns_in all left)) answer from to ps
  join_cut lcs rcs lmade rmade start lkeys rkeys ps sl sr fits es is = by (table_in all left) refl sl (table_in all right) refl sr
    where
      by : (a : Option TableVersions) → table_in all left ≡ a → ShowsTable lcs lmade lkeys a → (b : Option TableVersions) → table_in all right ≡ b → ShowsTable rcs rmade rkeys b → IsCut (width_of (columns_in all left)) answer from to ps
      by None ea sl b eb sr = let no = sl.made in cc
      by (Some l) ea sl None eb sr = let no = sr.made in cc
      by (Some l) ea sl (Some r) eb sr =
          let lc : lcs ≡ l.columns = let h = sl.columns in cc in
          let rc : rcs ≡ r.columns = let h = sr.columns in cc in
          let lm : lmade ≡ l.created = let h = sl.made in cc in
          let rm : rmade ≡ r.created = let h = sr.made in cc in
          let lk : map keyed lkeys ≡ l.keys = let h = sl.keys in cc in
          let rk : map keyed rkeys ≡ r.keys = let h = sr.keys in cc in
          let begins : start ≡ max (max from l.created) r.created = es ∙ ap (λ (x : ℕ). max (max from x) rmade) lm ∙ ap (λ (x : ℕ). max (max from l.created) x) rm in
          let lv : map (λ k. k.1) lkeys ≡ map (λ k. k.versions) l.keys = kept_versions lkeys ∙ ap (λ ks. map (λ (k : KeyVersions). k.versions) ks) lk in
          let rv : map (λ k. k.1) rkeys ≡ map (λ k. k.versions) r.keys = kept_versions rkeys ∙ ap (λ ks. map (λ (k : KeyVersions). k.versions) ks) rk in
          let same = is
          ∙ ap (λ (s : ℕ). merged (join_all (record { from = s; to = to }) places.left places.right (map (λ k. k.1) lkeys) (map (λ k. k.1) rkeys))) begins
          ∙ ap (λ vs. merged (join_all (record { from = max (max from l.created) r.created; to = to }) places.left places.right vs (map (λ k. k.1) rkeys))) lv
          ∙ ap (λ vs. merged (join_all (record { from = max (max from l.created) r.created; to = to }) places.left places.right (map (λ (k : KeyVersions). k.versions) l.keys) vs)) rv in
          subst (IsCut (width_of (columns_in all left)) answer from to) (sym same)
          (with_tables l r ea eb (fits ∙ ap (λ cs. joining_places (column_named left_column cs) (column_named right_column rcs)) lc ∙ ap (λ cs. joining_places (column_named left_column l.columns) (column_named right_column cs)) rc))

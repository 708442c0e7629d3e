-- A statement is replied as before, where nothing touched what it reads.
use Rattle.std.proofs.Common.{◌≡◌, ℕ, Bool, if◌then◌else◌, Option, Some, None, is_some, Result, Ok, Err, List, [], ◌∷◌, ◌++◌, refl, sym, ap, ◌∙◌}
use Rattle.std.specs.Option.{option_map}
use Rattle.tuple_bytes.specs.declared.value.Value.{Value}
use Rattle.tuple_bytes.specs.declared.value.Value.TheVariants.{Null}
use Rattle.tuple_bytes.specs.declared.op.Column.{Column}
use Rattle.tuple_bytes.specs.declared.op.Op.{Op}
use Rattle.tuple_bytes.specs.declared.filter.Filter.{Filter}
use Rattle.tuple_bytes.specs.declared.item.Item.{Item}
use Rattle.tuple_bytes.specs.declared.item.Txn.{Txn}
use Rattle.history_model.specs.declared.change.TableFail.{TableFail}
use Rattle.history_model.specs.declared.change.TableFail.TheVariants.{NoTable, TableExists}
use Rattle.history_model.specs.declared.change.Write.{Write}
use Rattle.history_model.specs.declared.change.Write.TheVariants as writes
use Rattle.history_model.specs.Answers.{unless_fault, key_fault, row_seen, row_at, fault_seen, write_name, write_key, op_of, prepared}
use Rattle.history_model.specs.Glance.{Glance, glance, glance_of, after_glances, IsOrdered}
use Rattle.history_model.specs.History.{txns, last_moment, MayFollow}
use Rattle.history_model.specs.State.{Table, State, table_of, after_ops, state}
use Rattle.history_model.proofs.Pending.{glance_ops}
use Rattle.tt_table.specs.declared.version.Version.{Version}
use Rattle.tt_table.specs.Stands.{versions_from}
use Rattle.asof_query.specs.Filters.{rows_of, scan_of}
use Rattle.asof_query.specs.Told.{told as versions_told, history_told}
use Rattle.sequenced_query.specs.declared.piece.Piece.{Piece}
use Rattle.sequenced_query.specs.declared.error.OverFail.{OverFail}
use Rattle.sequenced_query.specs.Plain.{rows_or_none, joined_tables}
use Rattle.sequenced_query.specs.Columns.{columns_of, width_of}
use Rattle.sequenced_query.specs.Refusals.{over_fault, select_fault, join_fault}
use Rattle.sequenced_query.specs.Plainly.{cut_of}
use Rattle.sequenced_query.specs.Spans.{unless_wrong, select_over, join_over}
use Rattle.stmt_text.specs.declared.stmt.Stmt.TheVariants as stmts
use Rattle.statement_core.specs.Database as stores
use Rattle.statement_core.specs.Steps.{found, scanned, told, pieced}
use Rattle.session_model.specs.OneTable.{on_tables, OneTableIsEnough}
use Rattle.session_model.specs.declared.place.Place.{Place}
use Rattle.session_model.specs.declared.place.Place.TheVariants.{Key, Keys, Existence}
use Rattle.session_model.specs.Statements.{said, pend, say}
use Rattle.session_model.specs.Later.{IsLater, AnswersStay, NoneTouches}
use Rattle.session_model.proofs.Untouched.{ordered_state, table_ops, there_after, there_ops, glance_kept, table_kept, there_kept, none_of_first, none_of_more}
use Rattle.session_model.proofs.Later.{IsQuiet, now_of, quiet_at, quiet_now, all_quiet}
use Rattle.session_model.proofs.Histories.{changes_now, quiet_changes}

-- ---- what an answer depends on

create_by : (name : List ℕ) (columns : List Column) (o : Option Table) → fault_seen (writes.Create name columns) (option_map (glance_of Null) o) ≡ (if is_some o then Some TableExists else None)
create_by name columns None = refl
create_by name columns (Some t) = refl

-- by whether there is a table
abbrev pub create_seen : List ℕ → List Column → List Op → Bool → Result Op TableFail
create_seen name columns pending b = unless_fault (if there_after name pending b then Some TableExists else None) (Ok (op_of (writes.Create name columns)))

create_prepared : (name : List ℕ) (columns : List Column) (pending : List Op) (s : State) → IsOrdered s
    → prepared (after_ops pending s) (writes.Create name columns) ≡ create_seen name columns pending (is_some (table_of name s))
create_prepared name columns pending s is =
    ap (λ (f : Option TableFail). unless_fault f (Ok (op_of (writes.Create name columns))))
    (create_by name columns (table_of name (after_ops pending s))
    ∙ ap (λ b. if b then Some TableExists else None) (ap is_some (table_ops name pending s is) ∙ there_ops name pending (table_of name s)))

-- by what is seen at its key
abbrev pub write_seen : Write → List Op → Option Glance → Result Op TableFail
write_seen write pending g = unless_fault (fault_seen write (after_glances (write_name write) (write_key write) pending g)) (Ok (op_of write))

write_prepared : (write : Write) (pending : List Op) (s : State) → IsOrdered s → prepared (after_ops pending s) write ≡ write_seen write pending (glance (write_name write) (write_key write) s)
write_prepared write pending s is = ap (λ g. unless_fault (fault_seen write g) (Ok (op_of write))) (glance_ops (write_name write) (write_key write) pending s is)

abbrev pub told_seen : Value → List Version → Option Glance → Result (List Version) TableFail
told_seen key versions None = Err NoTable
told_seen key versions (Some g) = unless_fault (key_fault g.columns key) (Ok versions)

told_by : (key : Value) (versions : List Version) (o : Option Table) → versions_told key versions o ≡ told_seen key versions (option_map (glance_of key) o)
told_by key versions None = refl
told_by key versions (Some t) = refl

-- a table at each moment
abbrev pub table_through : List ℕ → List Txn → ℕ → Option Table
table_through name ts m = table_of name (state ts m)

-- by the columns of now, and by the tables of each moment
abbrev pub columns_seen : Option Table → Option (List Column)
columns_seen t = option_map (λ t. t.columns) t

abbrev pub select_seen : Option Filter → ℕ → ℕ → Option Table → (ℕ → Option Table) → Result (List Piece) OverFail
select_seen f from to now at =
    unless_wrong (over_fault from to (select_fault f (columns_seen now))) (cut_of (width_of (columns_seen now)) (λ m. rows_or_none (rows_of f (at m))) from to)

-- of two tables
abbrev pub join_seen : List ℕ → List ℕ → ℕ → ℕ → Option Table × Option Table → (ℕ → Option Table) → (ℕ → Option Table) → Result (List Piece) OverFail
join_seen lc rc from to now left right =
    unless_wrong (over_fault from to (join_fault lc rc (columns_seen now.0) (columns_seen now.1))) (cut_of (width_of (columns_seen now.0)) (λ m. joined_tables lc rc (left m) (right m)) from to)

-- ---- it stays

module _ (w later : stores.Database) (more : IsLater w later) where
  module _ {A : Type 0} (places : List Place) (G : List Item → A) (one : (items : List Item) (item : Item) → MayFollow (last_moment items) item → IsQuiet places item → G (items ++ item ∷ []) ≡ G items) where
    stays : NoneTouches places (txns more.items) → G later.items ≡ G w.items
    stays quiet = ap G more.behind ∙ all_quiet places G one more.items w.items more.rise quiet

  module _ (name : List ℕ) where
    there_stays : NoneTouches (Existence name ∷ []) (txns more.items) → is_some (table_of name (now_of later.items)) ≡ is_some (table_of name (now_of w.items))
    there_stays = stays (Existence name ∷ []) (λ items. is_some (table_of name (now_of items))) (quiet_now (Existence name ∷ []) (λ s. is_some (table_of name s)) (there_kept name))

    table_now_stays : NoneTouches (Existence name ∷ Keys name ∷ []) (txns more.items) → table_of name (now_of later.items) ≡ table_of name (now_of w.items)
    table_now_stays = stays (Existence name ∷ Keys name ∷ []) (λ items. table_of name (now_of items)) (quiet_now (Existence name ∷ Keys name ∷ []) (table_of name) (table_kept name))

    table_at_stays : (m : ℕ) → NoneTouches (Existence name ∷ Keys name ∷ []) (txns more.items) → table_of name (state (txns later.items) m) ≡ table_of name (state (txns w.items) m)
    table_at_stays m = stays (Existence name ∷ Keys name ∷ []) (λ items. table_of name (state (txns items) m)) (quiet_at (Existence name ∷ Keys name ∷ []) (table_of name) (table_kept name) m)

    tables_stay : NoneTouches (Existence name ∷ Keys name ∷ []) (txns more.items) → table_through name (txns later.items) ≡ table_through name (txns w.items)
    tables_stay quiet = λ i m. table_at_stays m quiet i

    select_stays : (f : Option Filter) (from to : ℕ) → NoneTouches (Existence name ∷ Keys name ∷ []) (txns more.items)
        → select_over (columns_of (now_of later.items)) (state (txns later.items)) name f from to ≡ select_over (columns_of (now_of w.items)) (state (txns w.items)) name f from to
    select_stays f from to quiet =
        ap (λ now. select_seen f from to now (table_through name (txns later.items))) (table_now_stays quiet)
        ∙ ap (select_seen f from to (table_of name (now_of w.items))) (tables_stay quiet)

    module _ (key : Value) (quiet : NoneTouches (Existence name ∷ Key name key ∷ []) (txns more.items)) where
      glance_now_stays : glance name key (now_of later.items) ≡ glance name key (now_of w.items)
      glance_now_stays = stays (Existence name ∷ Key name key ∷ []) (λ items. glance name key (now_of items)) (quiet_now (Existence name ∷ Key name key ∷ []) (glance name key) (glance_kept name key)) quiet

      glance_at_stays : (m : ℕ) → glance name key (state (txns later.items) m) ≡ glance name key (state (txns w.items) m)
      glance_at_stays m = stays (Existence name ∷ Key name key ∷ []) (λ items. glance name key (state (txns items) m)) (quiet_at (Existence name ∷ Key name key ∷ []) (glance name key) (glance_kept name key) m) quiet

      changes_stay : changes_now name key later.items ≡ changes_now name key w.items
      changes_stay = stays (Existence name ∷ Key name key ∷ []) (changes_now name key) (quiet_changes name key) quiet

      history_stays : history_told name key (txns later.items) (last_moment later.items) ≡ history_told name key (txns w.items) (last_moment w.items)
      history_stays =
          told_by key (versions_from (changes_now name key later.items)) (table_of name (now_of later.items))
          ∙ ap (λ cs. told_seen key (versions_from cs) (glance name key (now_of later.items))) changes_stay
          ∙ ap (told_seen key (versions_from (changes_now name key w.items))) glance_now_stays
          ∙ sym (told_by key (versions_from (changes_now name key w.items)) (table_of name (now_of w.items)))

  join_stays : (left right lc rc : List ℕ) (from to : ℕ) → NoneTouches (Existence left ∷ Keys left ∷ Existence right ∷ Keys right ∷ []) (txns more.items)
      → join_over (columns_of (now_of later.items)) (state (txns later.items)) left lc right rc from to ≡ join_over (columns_of (now_of w.items)) (state (txns w.items)) left lc right rc from to
  join_stays left right lc rc from to quiet =
      let lefts = none_of_first (Existence left ∷ Keys left ∷ []) (Existence right ∷ Keys right ∷ []) (txns more.items) quiet in
      let rights = none_of_more (Existence left ∷ Keys left ∷ []) (Existence right ∷ Keys right ∷ []) (txns more.items) quiet in
      ap (λ l. join_seen lc rc from to (l, table_of right (now_of later.items)) (table_through left (txns later.items)) (table_through right (txns later.items))) (table_now_stays left lefts)
      ∙ ap (λ r. join_seen lc rc from to (table_of left (now_of w.items), r) (table_through left (txns later.items)) (table_through right (txns later.items))) (table_now_stays right rights)
      ∙ ap (λ ls. join_seen lc rc from to (table_of left (now_of w.items), table_of right (now_of w.items)) ls (table_through right (txns later.items))) (tables_stay left lefts)
      ∙ ap (join_seen lc rc from to (table_of left (now_of w.items), table_of right (now_of w.items)) (table_through left (txns w.items))) (tables_stay right rights)

  module _ (pending : List Op) where
    create_stays : (name : List ℕ) (columns : List Column) → NoneTouches (Existence name ∷ []) (txns more.items)
        → prepared (after_ops pending (now_of later.items)) (writes.Create name columns) ≡ prepared (after_ops pending (now_of w.items)) (writes.Create name columns)
    create_stays name columns quiet =
        create_prepared name columns pending (now_of later.items) (ordered_state (txns later.items) (last_moment later.items))
        ∙ ap (create_seen name columns pending) (there_stays name quiet)
        ∙ sym (create_prepared name columns pending (now_of w.items) (ordered_state (txns w.items) (last_moment w.items)))

    write_stays : (write : Write) → NoneTouches (Existence (write_name write) ∷ Key (write_name write) (write_key write) ∷ []) (txns more.items)
        → prepared (after_ops pending (now_of later.items)) write ≡ prepared (after_ops pending (now_of w.items)) write
    write_stays write quiet =
        write_prepared write pending (now_of later.items) (ordered_state (txns later.items) (last_moment later.items))
        ∙ ap (write_seen write pending) (glance_now_stays (write_name write) (write_key write) quiet)
        ∙ sym (write_prepared write pending (now_of w.items) (ordered_state (txns w.items) (last_moment w.items)))

    row_stays : (name : List ℕ) (key : Value) → NoneTouches (Existence name ∷ Key name key ∷ []) (txns more.items)
        → row_at (after_ops pending (now_of later.items)) name key ≡ row_at (after_ops pending (now_of w.items)) name key
    row_stays name key quiet =
        ap (row_seen key) (glance_ops name key pending (now_of later.items) (ordered_state (txns later.items) (last_moment later.items))
        ∙ ap (after_glances name key pending) (glance_now_stays name key quiet)
        ∙ sym (glance_ops name key pending (now_of w.items) (ordered_state (txns w.items) (last_moment w.items))))

    scan_stays : (name : List ℕ) (f : Option Filter) → NoneTouches (Existence name ∷ Keys name ∷ []) (txns more.items)
        → scan_of (after_ops pending (now_of later.items)) name f ≡ scan_of (after_ops pending (now_of w.items)) name f
    scan_stays name f quiet =
        ap (rows_of f) (table_ops name pending (now_of later.items) (ordered_state (txns later.items) (last_moment later.items))
        ∙ ap (on_tables name pending) (table_now_stays name quiet)
        ∙ sym (table_ops name pending (now_of w.items) (ordered_state (txns w.items) (last_moment w.items))))

pub answers_stay : AnswersStay
unfolding say
answers_stay w later pending (stmts.Create name columns) more quiet = ap (pend pending) (create_stays w later more pending name columns quiet)
answers_stay w later pending (stmts.Insert name row) more quiet = ap (pend pending) (write_stays w later more pending (writes.Insert name row) quiet)
answers_stay w later pending (stmts.Update name row) more quiet = ap (pend pending) (write_stays w later more pending (writes.Update name row) quiet)
answers_stay w later pending (stmts.Delete name key) more quiet = ap (pend pending) (write_stays w later more pending (writes.Delete name key) quiet)
answers_stay w later pending (stmts.Get name key None) more quiet = ap (λ r. said pending (found r)) (row_stays w later more pending name key quiet)
answers_stay w later pending (stmts.Get name key (Some m)) more quiet = ap (λ g. said pending (found (row_seen key g))) (glance_at_stays w later more name key quiet m)
answers_stay w later pending (stmts.Scan name f None) more quiet = ap (λ r. said pending (scanned r)) (scan_stays w later more pending name f quiet)
answers_stay w later pending (stmts.Scan name f (Some m)) more quiet = ap (λ t. said pending (scanned (rows_of f t))) (table_at_stays w later more name m quiet)
answers_stay w later pending (stmts.History name key) more quiet = ap (λ r. said pending (told r)) (history_stays w later more name key quiet)
answers_stay w later pending (stmts.OverSelect from to name f) more quiet = ap (λ r. said pending (pieced r)) (select_stays w later more name f from to quiet)
answers_stay w later pending (stmts.OverJoin from to left right lc rc) more quiet = ap (λ r. said pending (pieced r)) (join_stays w later more left right lc rc from to quiet)
answers_stay w later pending stmts.Begin more quiet = refl
answers_stay w later pending stmts.Commit more quiet = refl
answers_stay w later pending stmts.Abort more quiet = refl
answers_stay w later pending stmts.Notarize more quiet = refl
answers_stay w later pending stmts.Validate more quiet = refl
answers_stay w later pending stmts.Audit more quiet = refl
answers_stay w later pending (stmts.Policy k algs) more quiet = refl
answers_stay w later pending (stmts.Analyse algorithm era) more quiet = refl
answers_stay w later pending (stmts.Now moment) more quiet = refl

pub one_table_is_enough : OneTableIsEnough
one_table_is_enough ts m name ops = table_ops name ops (state ts m) (ordered_state ts m)

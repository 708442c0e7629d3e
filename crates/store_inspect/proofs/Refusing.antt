-- An operation fits exactly where some write that is not refused becomes it.
use Rattle.std.proofs.Common.{◌≡◌, ℕ, Bool, true, false, not, ◌&&◌, cond, List, Option, Some, None, Ok, refl, sym, ap, ◌∙◌}
use Rattle.std.specs.Prelude.{is_none}
use Rattle.std.specs.Option.{option_map, option_or}
use Rattle.tuple_bytes.specs.declared.op.Column.{Column}
use Rattle.tuple_bytes.specs.declared.op.Op.{Op}
use Rattle.tuple_bytes.specs.declared.op.Op.TheVariants as ops
use Rattle.tuple_bytes.specs.declared.value.Value.{Value}
use Rattle.tuple_bytes.specs.declared.value.Value.TheVariants.{Null}
use Rattle.history_model.specs.declared.change.TableFail.{TableFail}
use Rattle.history_model.specs.declared.change.TableFail.TheVariants.{NullKey, BadCount, BadType}
use Rattle.history_model.specs.declared.change.Write.{Write}
use Rattle.history_model.specs.declared.change.Write.TheVariants.{Create, Insert, Update, Delete}
use Rattle.history_model.specs.Values.{is_fitting, are_columns, key_of}
use Rattle.history_model.specs.State.{Table, State, table_of, row_of}
use Rattle.history_model.specs.Changes.{takes}
use Rattle.history_model.specs.Glance.{Glance, glance, glance_of}
use Rattle.history_model.specs.Answers.{row_fault, key_fault, unless_fault, row_seen, missing, fault_seen, write_fault, op_of}
use Rattle.store_inspect.specs.Items.{is_row, is_fitting_op}
use Rattle.store_inspect.specs.Laws.{has_columns, IsMadeBy, FittingIsMade}

-- ---- rows

row_by : (count null : Bool) (wrong : Option ℕ) → ((count && not null) && is_none wrong) ≡ true → cond count (cond null (Some NullKey) (option_map BadType wrong)) (Some BadCount) ≡ None
row_by true true wrong e = absurd cc
row_by true false None e = refl
row_by true false (Some n) e = absurd cc
row_by false null wrong e = absurd cc

by_row : (count null : Bool) (wrong : Option ℕ) → cond count (cond null (Some NullKey) (option_map BadType wrong)) (Some BadCount) ≡ None → ((count && not null) && is_none wrong) ≡ true
by_row true true wrong e = absurd cc
by_row true false None e = refl
by_row true false (Some n) e = absurd cc
by_row false null wrong e = absurd cc

row_fits : (columns : List Column) (row : List Value) → is_fitting columns row ≡ true → row_fault columns row ≡ None
row_fits columns row e = row_by _ _ _ e

fits_row : (columns : List Column) (row : List Value) → row_fault columns row ≡ None → is_fitting columns row ≡ true
fits_row columns row e = by_row _ _ _ e

first_none : (a b : Option TableFail) → option_or a b ≡ None → a ≡ None
first_none None b e = refl
first_none (Some x) b e = absurd cc

-- ---- creates

created_from : (name : List ℕ) (columns : List Column) (t : Option Table) → is_none t ≡ true → fault_seen (Create name columns) (option_map (glance_of Null) t) ≡ None
created_from name columns None e = refl
created_from name columns (Some t) e = absurd cc

created_to : (name : List ℕ) (columns : List Column) (t : Option Table) → fault_seen (Create name columns) (option_map (glance_of Null) t) ≡ None → is_none t ≡ true
created_to name columns None e = refl
created_to name columns (Some t) e = absurd cc

-- ---- puts

-- which write puts a row at a key that has this one
put_by : (name : List ℕ) (row : List Value) (seen : Option (List Value)) → Write
put_by name row None = Insert name row
put_by name row (Some old) = Update name row

put_becomes : (name : List ℕ) (row : List Value) (seen : Option (List Value)) → op_of (put_by name row seen) ≡ ops.Put name row
unfolding put_by
put_becomes name row None = refl
put_becomes name row (Some old) = refl

put_accepted : (name : List ℕ) (row : List Value) (s : State) (seen : Option (List Value)) (columns : List Column) → glance name (key_of row) s ≡ Some (record { columns = columns; row = seen }) → row_fault columns row ≡ None
    → write_fault (put_by name row seen) s ≡ None
unfolding put_by
put_accepted name row s None columns at none = ap (fault_seen (Insert name row)) at ∙ ap (λ (f : Option TableFail). option_or f None) none
put_accepted name row s (Some old) columns at none = ap (fault_seen (Update name row)) at ∙ ap (λ (f : Option TableFail). option_or f None) none

puts_from : (name : List ℕ) (row : List Value) (s : State) (t : Option Table) → table_of name s ≡ t → takes t row ≡ true → (write : Write) × IsMadeBy (ops.Put name row) s write
puts_from name row s None is e = absurd cc
puts_from name row s (Some t) is e =
    let seen = row_of (key_of row) t in (
      put_by name row seen,
      record {
        becomes = put_becomes name row seen;
        accepted = put_accepted name row s seen t.columns (ap (option_map (glance_of (key_of row))) is) (row_fits t.columns row e);
      },
    )

inserted_to : (name : List ℕ) (row : List Value) (t : Option Table) → fault_seen (Insert name row) (option_map (glance_of (key_of row)) t) ≡ None → takes t row ≡ true
inserted_to name row None e = absurd cc
inserted_to name row (Some t) e = fits_row t.columns row (first_none _ _ e)

updated_to : (name : List ℕ) (row : List Value) (t : Option Table) → fault_seen (Update name row) (option_map (glance_of (key_of row)) t) ≡ None → takes t row ≡ true
updated_to name row None e = absurd cc
updated_to name row (Some t) e = fits_row t.columns row (first_none _ _ e)

-- ---- removes

removed_by : (fault : Option TableFail) (row : Option (List Value)) → is_row (unless_fault fault (Ok row)) ≡ true → option_or fault (missing row) ≡ None
removed_by None None e = absurd cc
removed_by None (Some row) e = refl
removed_by (Some f) row e = absurd cc

by_removed : (fault : Option TableFail) (row : Option (List Value)) → option_or fault (missing row) ≡ None → is_row (unless_fault fault (Ok row)) ≡ true
by_removed None None e = absurd cc
by_removed None (Some row) e = refl
by_removed (Some f) row e = absurd cc

removes_from : (name : List ℕ) (key : Value) (g : Option Glance) → is_row (row_seen key g) ≡ true → fault_seen (Delete name key) g ≡ None
removes_from name key None e = absurd cc
removes_from name key (Some g) e = removed_by (key_fault g.columns key) g.row e

removes_to : (name : List ℕ) (key : Value) (g : Option Glance) → fault_seen (Delete name key) g ≡ None → is_row (row_seen key g) ≡ true
removes_to name key None e = absurd cc
removes_to name key (Some g) e = by_removed (key_fault g.columns key) g.row e

-- ---- both ways

and_true : (a b : Bool) → a ≡ true → b ≡ true → (a && b) ≡ true
and_true a b p q = ap (λ (x : Bool). x && b) p ∙ q

second_true : (a b : Bool) → (a && b) ≡ true → b ≡ true
second_true true b e = e
second_true false b e = absurd cc

made : (op : Op) (s : State) → is_fitting_op op s ≡ true → (write : Write) × IsMadeBy op s write
made (ops.Create name columns) s e = (Create name columns, record { becomes = refl; accepted = created_from name columns (table_of name s) (second_true (are_columns columns) (is_none (table_of name s)) e) })
made (ops.Put name row) s e = puts_from name row s (table_of name s) refl e
made (ops.Remove name key) s e = (Delete name key, record { becomes = refl; accepted = removes_from name key (glance name key s) e })

of_write : (write : Write) (s : State) → has_columns (op_of write) ≡ true → write_fault write s ≡ None → is_fitting_op (op_of write) s ≡ true
of_write (Create name columns) s may none = and_true (are_columns columns) (is_none (table_of name s)) may (created_to name columns (table_of name s) none)
of_write (Insert name row) s may none = inserted_to name row (table_of name s) none
of_write (Update name row) s may none = updated_to name row (table_of name s) none
of_write (Delete name key) s may none = removes_to name key (glance name key s) none

pub fitting_is_made : FittingIsMade
fitting_is_made op s may = (
  made op s,
  λ m.
      sym (ap (λ (o : Op). is_fitting_op o s) m.1.becomes) ∙ of_write m.0 s (ap has_columns m.1.becomes ∙ may) m.1.accepted,
)

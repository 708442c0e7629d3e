-- No change of a script is refused by tables without the script's own.
use Rattle.std.proofs.Common.{◌≡◌, ℕ, zero, suc, ◌%◌, eqb, codes, Bool, true, false, if◌then◌else◌, Option, Some, None, is_some, Ok, List, [], ◌∷◌, ◌++◌, refl, ap, ◌∙◌, arith}
use Rattle.std.specs.declared.cmp.Ordering.{Ordering}
use Rattle.std.specs.declared.cmp.Ordering.TheVariants.{Less, Equal, Greater}
use Rattle.std.specs.Ordering.{is_eq, ordering_reverse}
use Rattle.std.specs.Option.{option_map}
use Rattle.std.proofs.lemmas.Bool.Decides.{nat_tests}
use Rattle.tuple_bytes.specs.declared.value.Value.{Value}
use Rattle.tuple_bytes.specs.declared.value.Value.TheVariants.{Null}
use Rattle.tuple_bytes.specs.declared.op.Column.{Column}
use Rattle.tuple_bytes.specs.declared.op.Kind.TheVariants as kinds
use Rattle.tuple_bytes.specs.Order.{value_cmp}
use Rattle.tuple_bytes.specs.OrderLaws.{values_total}
use Rattle.tuple_bytes.proofs.Exact.{values_exact}
use Rattle.history_model.specs.declared.change.Write.TheVariants as writes
use Rattle.tuple_bytes.specs.declared.op.Op.TheVariants as ops
use Rattle.history_model.specs.Answers.{fault_seen, op_of, unless_fault, taken, missing}
use Rattle.history_model.specs.Glance.{glance, glance_of, after_glance, IsOrdered}
use Rattle.history_model.specs.State.{State, table_of}
use Rattle.history_model.specs.Values.{same_key}
use Rattle.history_model.proofs.Pending.{glance_op, ordered_op}
use Rattle.stmt_text.specs.declared.stmt.Stmt.{Stmt}
use Rattle.stmt_text.specs.declared.stmt.Stmt.TheVariants as stmts
use Rattle.statement_core.specs.Steps.{write_in}
use Rattle.workload_make.specs.declared.change.Change.{Change}
use Rattle.workload_make.specs.declared.change.Change.TheVariants.{Insert, Update, Delete}
use Rattle.workload_make.specs.Script.{Progress, key, amount, third_word, change_at, leaves_present, after_step, made, number, change_stmt, steps, create_made, before_steps, script_stmts}
use Rattle.workload_laws.specs.Taken.{IsTaken, changed, AreTaken, ScriptsAreTaken}

-- ---- numbers as keys

equal_of : (r : Ordering) → is_eq r ≡ true → r ≡ Equal
equal_of Less e = cc
equal_of Equal e = refl
equal_of Greater e = cc

tied : (v : Value) → value_cmp v v ≡ Equal
tied v = itself (value_cmp v v) (values_total.antisymm v v) refl
  where
    itself : (r : Ordering) → value_cmp v v ≡ ordering_reverse (value_cmp v v) → value_cmp v v ≡ r → value_cmp v v ≡ Equal
    itself Less e is = cc
    itself Equal e is = is
    itself Greater e is = cc

same_number : (k j : ℕ) → same_key (number k) (number j) ≡ eqb j k
same_number k j = by (eqb j k) refl
  where
    by : (b : Bool) → eqb j k ≡ b → same_key (number k) (number j) ≡ b
    by true e = let same : j ≡ k = grind (arith, nat_tests, e) in ap (λ i. same_key (number k) (number i)) same ∙ ap is_eq (tied (number k))
    by false e = apart (same_key (number k) (number j)) refl
      where
        apart : (c : Bool) → same_key (number k) (number j) ≡ c → same_key (number k) (number j) ≡ false
        apart false f = f
        apart true f =
            let one : number k ≡ number j = values_exact (number k) (number j) (equal_of (value_cmp (number k) (number j)) f) in
            let same : k ≡ j = cc one in
            let yes_e : eqb j k ≡ true = grind (arith, nat_tests, same) in absurd (cc (yes_e, e))

-- ---- the table of a script

abbrev pub made_columns : List Column
made_columns = record { name = codes "id"; kind = kinds.Int } ∷ record { name = codes "amount"; kind = kinds.Int } ∷ []

-- at each number there is a row exactly where it is present
record IsMade (is_present : ℕ → Bool) (s : State) : Type 0 where
  ordered : IsOrdered s
  row : ℕ → Option (List Value)
  seen : (k : ℕ) → glance made (number k) s ≡ Some (record { columns = made_columns; row = row k })
  rows : (k : ℕ) → is_some (row k) ≡ is_present k

-- a change that goes with what is there
abbrev Goes : Change → Bool → Type 0
Goes Insert b = b ≡ false
Goes Update b = b ≡ true
Goes Delete b = b ≡ true

goes : (m : Progress) → Goes (change_at m) (m.is_present (key m))
goes m = by (m.is_present (key m)) (eqb (third_word m % 10) 0)
  where
    by : (b c : Bool) → Goes (if b then (if c then Delete else Update) else Insert) b
    by true true = refl
    by true false = refl
    by false c = refl

not_there : (r : Option (List Value)) → is_some r ≡ false → taken r ≡ None
not_there None e = refl
not_there (Some row) e = cc

there : (r : Option (List Value)) → is_some r ≡ true → missing r ≡ None
there None e = cc
there (Some row) e = refl

module _ (is_present : ℕ → Bool) (s : State) (is : IsMade is_present s) (k v : ℕ) where
  abbrev row_of_step : List Value
  row_of_step = number k ∷ number v ∷ []

  change_taken : (c : Change) → Goes c (is_present k) → IsTaken s (write_in (change_stmt c k v))
  change_taken Insert fits = ap (λ g. unless_fault (fault_seen (writes.Insert made row_of_step) g) (Ok (op_of (writes.Insert made row_of_step)))) (is.seen k) ∙ ap (λ o. unless_fault o (Ok (op_of (writes.Insert made row_of_step)))) (not_there (is.row k) (is.rows k ∙ fits))
  change_taken Update fits = ap (λ g. unless_fault (fault_seen (writes.Update made row_of_step) g) (Ok (op_of (writes.Update made row_of_step)))) (is.seen k) ∙ ap (λ o. unless_fault o (Ok (op_of (writes.Update made row_of_step)))) (there (is.row k) (is.rows k ∙ fits))
  change_taken Delete fits = ap (λ g. unless_fault (fault_seen (writes.Delete made (number k)) g) (Ok (op_of (writes.Delete made (number k))))) (is.seen k) ∙ ap (λ o. unless_fault o (Ok (op_of (writes.Delete made (number k))))) (there (is.row k) (is.rows k ∙ fits))

  put_rows : (j : ℕ) → is_some (if same_key (number k) (number j) then Some row_of_step else is.row j) ≡ (if eqb j k then true else is_present j)
  put_rows j = ap (λ b. is_some (if b then Some row_of_step else is.row j)) (same_number k j) ∙ by (eqb j k)
    where
      by : (b : Bool) → is_some (if b then Some row_of_step else is.row j) ≡ (if b then true else is_present j)
      by true = refl
      by false = is.rows j

  remove_rows : (j : ℕ) → is_some (if same_key (number k) (number j) then None else is.row j) ≡ (if eqb j k then false else is_present j)
  remove_rows j = ap (λ b. is_some (if b then None else is.row j)) (same_number k j) ∙ by (eqb j k)
    where
      by : (b : Bool) → is_some {T = List Value} (if b then None else is.row j) ≡ (if b then false else is_present j)
      by true = refl
      by false = is.rows j

  change_made : (c : Change) → IsMade (λ j. if eqb j k then leaves_present c else is_present j) (changed s (write_in (change_stmt c k v)))
  change_made Insert = record {
    ordered = ordered_op (ops.Put made row_of_step) s is.ordered;
    row = λ j. if same_key (number k) (number j) then Some row_of_step else is.row j;
    seen = λ j. glance_op made (number j) s is.ordered (ops.Put made row_of_step) ∙ ap (after_glance made (number j) (ops.Put made row_of_step)) (is.seen j);
    rows = put_rows;
  }
  change_made Update = record {
    ordered = ordered_op (ops.Put made row_of_step) s is.ordered;
    row = λ j. if same_key (number k) (number j) then Some row_of_step else is.row j;
    seen = λ j. glance_op made (number j) s is.ordered (ops.Put made row_of_step) ∙ ap (after_glance made (number j) (ops.Put made row_of_step)) (is.seen j);
    rows = put_rows;
  }
  change_made Delete = record {
    ordered = ordered_op (ops.Remove made (number k)) s is.ordered;
    row = λ j. if same_key (number k) (number j) then None else is.row j;
    seen = λ j. glance_op made (number j) s is.ordered (ops.Remove made (number k)) ∙ ap (after_glance made (number j) (ops.Remove made (number k))) (is.seen j);
    rows = remove_rows;
  }

-- ---- the steps

steps_taken : (count width : ℕ) (m : Progress) (s : State) (rest : List Stmt) → ((t : State) → AreTaken t rest) → IsMade m.is_present s → AreTaken s (steps count width m ++ rest)
unfolding steps
steps_taken zero width m s rest all is = all s
steps_taken (suc count) width m s rest all is = (
  tt,
  (
    change_taken m.is_present s is (key m) (amount m) (change_at m) (goes m),
    steps_taken count width (after_step width m) (changed s (write_in (change_stmt (change_at m) (key m) (amount m)))) rest all (change_made m.is_present s is (key m) (amount m) (change_at m)),
  ),
)

no_table : (s : State) (v : Value) → table_of made s ≡ None → glance made v s ≡ None
no_table s v none = ap (option_map (glance_of v)) none

pub scripts_are_taken : ScriptsAreTaken
unfolding script_stmts
scripts_are_taken width last seed count s ordered none = (
  ap (λ g. unless_fault (fault_seen (writes.Create made made_columns) g) (Ok (op_of (writes.Create made made_columns)))) (no_table s Null none),
  steps_taken count width (before_steps last seed) (changed s (write_in create_made)) (stmts.Notarize ∷ stmts.Validate ∷ []) (λ t. (tt, (tt, tt)))
      (record {
        ordered = ordered_op (ops.Create made made_columns) s ordered;
        row = λ k. None;
        seen = λ k. glance_op made (number k) s ordered (ops.Create made made_columns) ∙ ap (after_glance made (number k) (ops.Create made made_columns)) (no_table s (number k) none);
        rows = λ k. refl;
      }),
)

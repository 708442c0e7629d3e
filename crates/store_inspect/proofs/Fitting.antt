-- Operations and their tables, with one more.
use Rattle.std.proofs.Common.{◌≡◌, ℕ, ◌+◌, ◌<◌, Bool, not, List, [], ◌∷◌, ◌++◌, length, get_or, take, length-take, append_assoc, refl, sym, ap, ◌∙◌, arith}
use Rattle.std.proofs.lemmas.List.{append-nil, take_more}
use Rattle.std.proofs.lemmas.List.Elements.{filter_map-append}
use Rattle.tuple_bytes.specs.declared.item.Item.{Item}
use Rattle.tuple_bytes.specs.declared.item.Item.TheVariants as items
use Rattle.tuple_bytes.specs.declared.item.Txn.{Txn}
use Rattle.tuple_bytes.specs.declared.op.Op.{Op}
use Rattle.history_model.specs.History.{txn_in, txns}
use Rattle.history_model.specs.State.{State, after_op, after_ops, after_txns}
use Rattle.history_model.proofs.Histories.{after_append}
use Rattle.file_findings.specs.declared.finding.Finding.{Finding}
use Rattle.file_findings.specs.declared.finding.Finding.TheVariants.{Misfit, Unsayable}
use Rattle.store_inspect.specs.declared.operations.Operations.{Operations}
use Rattle.file_findings.specs.Along.{listed}
use Rattle.store_inspect.specs.Items.{next_place, is_fitting_op, misfits_from, misfits, tables_of, is_sayable_op, unsayable_from, unsayable}
use Rattle.store_inspect.specs.Known.{KnowsOperations}
use Rattle.store_inspect.proofs.Others.{IsOther, of_other}
use Rattle.file_findings.proofs.Along.{found_none, found_with}

-- ---- one operation more

pub after_push : (ops : List Op) (op : Op) (s : State) → after_ops (ops ++ op ∷ []) s ≡ after_op op (after_ops ops s)
after_push [] op s = refl
after_push (o ∷ ops) op s = after_push ops op (after_op o s)

pub misfits_push : (item n : ℕ) (ops : List Op) (op : Op) (s : State) → misfits_from item n (ops ++ op ∷ []) s
    ≡ misfits_from item n ops s ++ listed (not (is_fitting_op op (after_ops ops s))) (Misfit item (n + length ops))
misfits_push item n [] op s = append-nil (listed (not (is_fitting_op op s)) (Misfit item n)) ∙ ap (λ (m : ℕ). listed (not (is_fitting_op op s)) (Misfit item m)) (omega arith)
misfits_push item n (o ∷ ops) op s =
    let here = listed (not (is_fitting_op o s)) (Misfit item n) in
    let last : ℕ → List Finding = λ m. listed (not (is_fitting_op op (after_ops ops (after_op o s)))) (Misfit item m) in
    ap (λ (l : List Finding). here ++ l) (misfits_push item (n + 1) ops op (after_op o s))
    ∙ sym (append_assoc here (misfits_from item (n + 1) ops (after_op o s)) (last (n + 1 + length ops)))
    ∙ ap (λ (m : ℕ). (here ++ misfits_from item (n + 1) ops (after_op o s)) ++ last m) (omega arith)

pub unsayable_push : (item n : ℕ) (ops : List Op) (op : Op) → unsayable_from item n (ops ++ op ∷ [])
    ≡ unsayable_from item n ops ++ listed (not (is_sayable_op op)) (Unsayable item (n + length ops))
unsayable_push item n [] op = append-nil (listed (not (is_sayable_op op)) (Unsayable item n)) ∙ ap (λ (m : ℕ). listed (not (is_sayable_op op)) (Unsayable item m)) (omega arith)
unsayable_push item n (o ∷ ops) op =
    let here = listed (not (is_sayable_op o)) (Unsayable item n) in
    let last : ℕ → List Finding = λ m. listed (not (is_sayable_op op)) (Unsayable item m) in
    ap (λ (l : List Finding). here ++ l) (unsayable_push item (n + 1) ops op)
    ∙ sym (append_assoc here (unsayable_from item (n + 1) ops) (last (n + 1 + length ops)))
    ∙ ap (λ (m : ℕ). (here ++ unsayable_from item (n + 1) ops) ++ last m) (omega arith)

-- ---- one item more

pub tables_txn : (before : List Item) (t : Txn) → tables_of (before ++ items.Txn t ∷ []) ≡ after_ops t.ops (tables_of before)
tables_txn before t = ap (λ (ts : List Txn). after_txns ts []) (filter_map-append txn_in before (items.Txn t ∷ [])) ∙ after_append (txns before) (t ∷ []) []

pub tables_other : (before : List Item) (item : Item) → txns (item ∷ []) ≡ [] → tables_of (before ++ item ∷ []) ≡ tables_of before
tables_other before item none = ap (λ (ts : List Txn). after_txns ts []) (filter_map-append txn_in before (item ∷ []) ∙ ap (λ (ts : List Txn). txns before ++ ts) none ∙ append-nil (txns before))

pub operations_txn : (old new : Operations) (t : Txn) (place : ℕ) → new.tables ≡ after_ops t.ops old.tables → new.misfits.items ≡ old.misfits.items ++ misfits_from place 1 t.ops old.tables
    → new.unsayable.items ≡ old.unsayable.items ++ unsayable_from place 1 t.ops
    → (before : List Item) → place ≡ next_place before → KnowsOperations old before → KnowsOperations new (before ++ items.Txn t ∷ [])
operations_txn old new t place tables more others before at known = record {
  tables = tables ∙ ap (after_ops t.ops) known.tables ∙ sym (tables_txn before t);
  found = found_with misfits before (items.Txn t) old.misfits.items new.misfits.items _ more
      (ap (λ (p : ℕ). misfits_from p 1 t.ops old.tables) at ∙ ap (λ (s : State). misfits_from (next_place before) 1 t.ops s) known.tables) known.found;
  unsayable_are = found_with unsayable before (items.Txn t) old.unsayable.items new.unsayable.items _ others (ap (λ (p : ℕ). unsayable_from p 1 t.ops) at) known.unsayable_are;
}

pub operations_other : (o : Operations) (item : Item) → txns (item ∷ []) ≡ [] → ((before : List Item) → misfits before item ≡ []) → ((before : List Item) → unsayable before item ≡ [])
    → (before : List Item) → KnowsOperations o before → KnowsOperations o (before ++ item ∷ [])
operations_other o item none nothing sayable before known = record {
  tables = known.tables ∙ sym (tables_other before item none);
  found = known.found ∙ sym (found_none misfits before item (nothing before));
  unsayable_are = known.unsayable_are ∙ sym (found_none unsayable before item (sayable before));
}

pub operations_others : (o : Operations) (item : Item) → IsOther item → (before : List Item) → KnowsOperations o before → KnowsOperations o (before ++ item ∷ [])
operations_others o item other before known = of_other (λ i. KnowsOperations o (before ++ i ∷ []))
    (λ m. operations_other o (items.Frontier m) refl (λ b. refl) (λ b. refl) before known)
    (λ tile granule k algs. operations_other o (items.Policy tile granule k algs) refl (λ b. refl) (λ b. refl) before known) item other

-- ---- the operations up to one of them

module _ (place i : ℕ) (ops : List Op) (op : Op) (below : i < length ops) (at : op ≡ get_or ops i op) where
  taken : take (i + 1) ops ≡ take i ops ++ op ∷ []
  taken = take_more ops i op below ∙ ap (λ (o : Op). take i ops ++ o ∷ []) (sym at)

  pub tables_step : (old now new : State) (copied : Op) → copied ≡ op → now ≡ after_ops (take i ops) old → new ≡ after_op copied now → new ≡ after_ops (take (i + 1) ops) old
  tables_step old now new copied same so_far is =
      is ∙ ap (λ (o : Op). after_op o now) same ∙ ap (after_op op) so_far ∙ sym (after_push (take i ops) op old) ∙ ap (λ (os : List Op). after_ops os old) (sym taken)

  pub misfits_step : (old now : State) (olds mid new : List Finding) (fits : Bool) → fits ≡ is_fitting_op op now → now ≡ after_ops (take i ops) old → new ≡ mid ++ listed (not fits) (Misfit place (i + 1))
      → mid ≡ olds ++ misfits_from place 1 (take i ops) old → new ≡ olds ++ misfits_from place 1 (take (i + 1) ops) old
  misfits_step old now olds mid new fits fit so_far is mid_is =
      let last : Bool → ℕ → List Finding = λ b m. listed (not b) (Misfit place m) in
      let here : Bool = is_fitting_op op (after_ops (take i ops) old) in
      let count : i + 1 ≡ 1 + length (take i ops) = omega (arith, length-take i ops, below) in
      is
      ∙ ap (λ (b : Bool). mid ++ last b (i + 1)) (fit ∙ ap (is_fitting_op op) so_far)
      ∙ ap (λ (l : List Finding). l ++ last here (i + 1)) mid_is
      ∙ append_assoc olds (misfits_from place 1 (take i ops) old) (last here (i + 1))
      ∙ ap (λ (m : ℕ). olds ++ (misfits_from place 1 (take i ops) old ++ last here m)) count
      ∙ ap (λ (l : List Finding). olds ++ l) (sym (misfits_push place 1 (take i ops) op old))
      ∙ ap (λ (os : List Op). olds ++ misfits_from place 1 os old) (sym taken)

  pub unsayable_step : (olds mid new : List Finding) (says : Bool) → says ≡ is_sayable_op op → new ≡ mid ++ listed (not says) (Unsayable place (i + 1))
      → mid ≡ olds ++ unsayable_from place 1 (take i ops) → new ≡ olds ++ unsayable_from place 1 (take (i + 1) ops)
  unsayable_step olds mid new says say is mid_is =
      let last : Bool → ℕ → List Finding = λ b m. listed (not b) (Unsayable place m) in
      let count : i + 1 ≡ 1 + length (take i ops) = omega (arith, length-take i ops, below) in
      is
      ∙ ap (λ (b : Bool). mid ++ last b (i + 1)) say
      ∙ ap (λ (l : List Finding). l ++ last (is_sayable_op op) (i + 1)) mid_is
      ∙ append_assoc olds (unsayable_from place 1 (take i ops)) (last (is_sayable_op op) (i + 1))
      ∙ ap (λ (m : ℕ). olds ++ (unsayable_from place 1 (take i ops) ++ last (is_sayable_op op) m)) count
      ∙ ap (λ (l : List Finding). olds ++ l) (sym (unsayable_push place 1 (take i ops) op))
      ∙ ap (λ (os : List Op). olds ++ unsayable_from place 1 os) (sym taken)

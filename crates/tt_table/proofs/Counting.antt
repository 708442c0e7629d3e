-- What is seen with operations over it, by the few of them that count.
use Rattle.std.proofs.Common.{◌≡◌, ℕ, zero, suc, ◌-◌, ◌<◌, ◌≤◌, Bool, true, false, ◌&&◌, if◌then◌else◌, Option, Some, None, List, [], ◌∷◌, length, get_or, take, drop, refl, sym, ap, subst, ◌∙◌, arith}
use Rattle.tuple_bytes.specs.declared.value.Value.{Value}
use Rattle.tuple_bytes.specs.declared.op.Column.{Column}
use Rattle.tuple_bytes.specs.declared.op.Op.{Op}
use Rattle.tuple_bytes.specs.declared.op.Op.TheVariants.{Create, Put, Remove}
use Rattle.history_model.specs.Values.{key_of, are_columns, is_fitting, same_name, same_key}
use Rattle.history_model.specs.Glance.{Glance, after_glance, after_glances}
use Rattle.tt_table.specs.Known.{is_of_key, creates, NoneOfKey, NoneCreates, settles, seen_with}

-- ---- operations of other keys

module _ (g : Glance) where
  put : (row : List Value) (fits a b : Bool) → (a && b) ≡ false → (if a then Some (record g { row = if fits && b then Some row else g.row }) else Some g) ≡ Some g
  put row fits false b e = refl
  put row true true false e = refl
  put row false true false e = refl
  put row fits true true e = absurd cc

  ended : (a b : Bool) → (a && b) ≡ false → (if a then Some (record g { row = if b then None else g.row }) else Some g) ≡ Some g
  ended false b e = refl
  ended true false e = refl
  ended true true e = absurd cc

  made : (a : Bool) → (if a then Some g else Some g) ≡ Some g
  made true = refl
  made false = refl

module _ (name : List ℕ) (key : Value) where
  one : (op : Op) → is_of_key name key op ≡ false → (g : Glance) → after_glance name key op (Some g) ≡ Some g
  one (Create n columns) e g = made g (same_name n name)
  one (Put n row) e g = put g row (is_fitting g.columns row) (same_name n name) (same_key (key_of row) key) e
  one (Remove n k) e g = ended g (same_name n name) (same_key k key) e

  stays_seen : (ops : List Op) → NoneOfKey name key ops → (g : Glance) → after_glances name key ops (Some g) ≡ Some g
  stays_seen [] none g = refl
  stays_seen (op ∷ ops) none g = ap (after_glances name key ops) (one op none.0 g) ∙ stays_seen ops none.1 g

  none_drop : (n : ℕ) (ops : List Op) → NoneOfKey name key ops → NoneOfKey name key (drop n ops)
  none_drop zero ops none = none
  none_drop (suc n) [] none = none
  none_drop (suc n) (op ∷ ops) none = none_drop n ops none.1

  -- none from a place on, also where some first ones are left out
  pub none_later : (n m : ℕ) (ops : List Op) → NoneOfKey name key (drop n ops) → NoneOfKey name key (drop (n - m) (drop m ops))
  none_later n zero ops none = let same : n ≡ n - 0 = omega arith in subst (λ (k : ℕ). NoneOfKey name key (drop k ops)) same none
  none_later zero (suc m) ops none = none_drop (0 - suc m) (drop (suc m) ops) (none_drop (suc m) ops none)
  none_later (suc n) (suc m) [] none = none_drop (suc n - suc m) [] tt
  none_later (suc n) (suc m) (op ∷ ops) none = let same : n - m ≡ suc n - suc m = omega arith in subst (λ (k : ℕ). NoneOfKey name key (drop k (drop m ops))) same (none_later n m ops none)

  -- none from the end on, and one more before those that are not
  pub none_end : (ops : List Op) → NoneOfKey name key (drop (length ops) ops)
  none_end [] = tt
  none_end (op ∷ ops) = none_end ops

  pub none_before : (ops : List Op) (i : ℕ) (op : Op) → i < length ops → op ≡ get_or ops i op → is_of_key name key op ≡ false → NoneOfKey name key (drop (suc i) ops) → NoneOfKey name key (drop i ops)
  none_before [] i op within is e none = absurd (omega arith)
  none_before (o ∷ ops) zero op within is e none = (subst (λ p. is_of_key name key p ≡ false) is e, none)
  none_before (o ∷ ops) (suc i) op within is e none = none_before ops i op (omega arith) is e none

-- ---- the last operation of the key

module _ (columns : List Column) where
  put_some : (row : List Value) (a : Bool) (b : Bool) (old : Option (List Value)) → (new : Option (List Value)) × ((if a then Some (record { columns = columns; row = if b then Some row else old }) else seen_with columns old) ≡ seen_with columns new)
  put_some row true b old = (if b then Some row else old, refl)
  put_some row false b old = (old, refl)

  end_some : (a : Bool) (b : Bool) (old : Option (List Value)) → (new : Option (List Value)) × ((if a then Some (record { columns = columns; row = if b then None else old }) else seen_with columns old) ≡ seen_with columns new)
  end_some true b old = (if b then None else old, refl)
  end_some false b old = (old, refl)

  module _ (name : List ℕ) (key : Value) where
    -- the columns stay
    some : (op : Op) (old : Option (List Value)) → (new : Option (List Value)) × (after_glance name key op (seen_with columns old) ≡ seen_with columns new)
    some (Create n c) old = (old, made (record { columns = columns; row = old }) (same_name n name))
    some (Put n row) old = put_some row (same_name n name) (is_fitting columns row && same_key (key_of row) key) old
    some (Remove n k) old = end_some (same_name n name) (same_key k key) old

    put_settles : (row : List Value) (a b fits : Bool) → (a && b && fits) ≡ true → (old new : Option (List Value))
        → ◌≡◌ {A = Option Glance} (if a then Some (record { columns = columns; row = if fits && b then Some row else old }) else seen_with columns old) (if a then Some (record { columns = columns; row = if fits && b then Some row else new }) else seen_with columns new)
    put_settles row true true true e old new = refl
    put_settles row true true false e old new = absurd cc
    put_settles row true false fits e old new = absurd cc
    put_settles row false b fits e old new = absurd cc

    end_settles : (a b : Bool) → (a && b) ≡ true → (old new : Option (List Value))
        → ◌≡◌ {A = Option Glance} (if a then Some (record { columns = columns; row = if b then None else old }) else seen_with columns old) (if a then Some (record { columns = columns; row = if b then None else new }) else seen_with columns new)
    end_settles true true e old new = refl
    end_settles true false e old new = absurd cc
    end_settles false b e old new = absurd cc

    -- one that settles
    settled : (op : Op) → settles columns name key op ≡ true → (old new : Option (List Value)) → after_glance name key op (seen_with columns old) ≡ after_glance name key op (seen_with columns new)
    settled (Create n c) e old new = absurd cc
    settled (Put n row) e old new = put_settles row (same_name n name) (same_key (key_of row) key) (is_fitting columns row) e old new
    settled (Remove n k) e old new = end_settles (same_name n name) (same_key k key) e old new

    -- the last one of the key counts alone, if it settles
    pub counts_last : (ops : List Op) (i : ℕ) (op : Op) → i < length ops → op ≡ get_or ops i op → NoneOfKey name key (drop (suc i) ops) → settles columns name key op ≡ true
        → (row : Option (List Value)) → after_glance name key op (seen_with columns row) ≡ after_glances name key ops (seen_with columns row)
    counts_last [] i op within is none e row = absurd (omega arith)
    counts_last (o ∷ ops) zero op within is none e row =
        let new = some op row in
        new.1 ∙ sym (stays_seen name key ops none (record { columns = columns; row = new.0 })) ∙ ap (after_glances name key ops) (sym new.1 ∙ ap (λ p. after_glance name key p (seen_with columns row)) is)
    counts_last (o ∷ ops) (suc i) op within is none e row =
        let new = some o row in
        settled op e row new.0 ∙ counts_last ops i op (omega arith) is none e new.0 ∙ ap (after_glances name key ops) (sym new.1)

    -- none of the key
    pub counts_none : (ops : List Op) → NoneOfKey name key ops → (row : Option (List Value)) → seen_with columns row ≡ after_glances name key ops (seen_with columns row)
    counts_none ops none row = sym (stays_seen name key ops none (record { columns = columns; row = row }))

-- ---- a table that is not there

module _ (name : List ℕ) (key : Value) where
  unmade : (a : Bool) (columns : List Column) → a ≡ false → (if a then (if are_columns columns then seen_with columns None else None) else None) ≡ None
  unmade true columns e = absurd cc
  unmade false columns e = refl

  still : (a : Bool) → ◌≡◌ {A = Option Glance} (if a then None else None) None
  still true = refl
  still false = refl

  not_made : (op : Op) → creates name op ≡ false → after_glance name key op None ≡ None
  not_made (Create n columns) e = unmade (same_name n name) columns e
  not_made (Put n row) e = still (same_name n name)
  not_made (Remove n k) e = still (same_name n name)

  -- one more of those that do not create it
  pub none_further : (ops : List Op) (i : ℕ) (op : Op) → i < length ops → op ≡ get_or ops i op → creates name op ≡ false → NoneCreates name (take i ops) → NoneCreates name (take (suc i) ops)
  none_further [] i op within is e none = absurd (omega arith)
  none_further (o ∷ ops) zero op within is e none = (subst (λ p. creates name p ≡ false) is e, tt)
  none_further (o ∷ ops) (suc i) op within is e none = (none.0, none_further ops i op (omega arith) is e none.1)

  -- it is not created
  pub never_made : (ops : List Op) (i : ℕ) → length ops ≤ i → NoneCreates name (take i ops) → after_glances name key ops None ≡ None
  never_made [] i past none = refl
  never_made (op ∷ ops) zero past none = absurd (omega arith)
  never_made (op ∷ ops) (suc i) past none = ap (after_glances name key ops) (not_made op none.0) ∙ never_made ops i (omega arith) none.1

  -- it is created, first by this one
  pub first_made : (ops : List Op) (i : ℕ) (n : List ℕ) (columns : List Column) → i < length ops → Create n columns ≡ get_or ops i (Create n columns) → same_name n name ≡ true → are_columns columns ≡ true
      → NoneCreates name (take i ops) → after_glances name key (drop (suc i) ops) (seen_with columns None) ≡ after_glances name key ops None
  first_made [] i n columns within is named may none = absurd (omega arith)
  first_made (op ∷ ops) zero n columns within is named may none =
      ap (after_glances name key ops) (ap (λ b. if b then seen_with columns None else None) (sym may) ∙ ap (λ b. if b then (if are_columns columns then seen_with columns None else None) else None) (sym named) ∙ ap (λ p. after_glance name key p None) is)
  first_made (op ∷ ops) (suc i) n columns within is named may none = first_made ops i n columns (omega arith) is named may none.1 ∙ ap (after_glances name key ops) (sym (not_made op none.0))

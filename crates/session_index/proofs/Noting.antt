-- The numbers at each place after one more.
use Rattle.std.proofs.Common.{◌≡◌, ℕ, min, Bool, true, false, cond, ◌&&◌, if◌then◌else◌, Option, Some, None, IsSome, Result, Ok, Err, OnOk, List, [], ◌∷◌, ◌++◌, refl, sym, ap, subst, ◌∙◌, arith}
use Rattle.std.specs.declared.cmp.Ordering.{Ordering}
use Rattle.std.specs.declared.cmp.Ordering.TheVariants.{Less, Equal, Greater}
use Rattle.std.specs.BTreeMap.{is_at}
use Rattle.std.specs.Cmp.{eq_by_cmp_equiv}
use Rattle.std.specs.Map.{lookup, set_value}
use Rattle.std.specs.Option.{unwrap_or}
use Rattle.std.specs.Ordering.{is_eq, eq_by_cmp, ordering_then}
use Rattle.std.proofs.lemmas.Map.{lookup-set_value}
use Rattle.tuple_bytes.specs.declared.value.Value.{Value}
use Rattle.tuple_bytes.specs.declared.value.Value.TheVariants.{Null}
use Rattle.tuple_bytes.specs.declared.op.Column.{Column}
use Rattle.tuple_bytes.specs.declared.op.Op.{Op}
use Rattle.tuple_bytes.specs.declared.op.Op.TheVariants.{Create, Put, Remove}
use Rattle.tuple_bytes.specs.Order.{name_cmp, value_cmp}
use Rattle.history_model.specs.Values.{key_of, same_name, same_key}
use Rattle.session_model.specs.declared.place.Place.TheVariants.{Key, Keys, Existence}
use Rattle.session_model.specs.declared.place.Place.{Place}
use Rattle.session_model.specs.Places.{touches}
use Rattle.session_model.specs.Index.{lesser, noted_op, noted_ops}
use Rattle.session_model.specs.PlaceOrder.{place_cmp, places_total}
use Rattle.session_model.proofs.PlacesExact.{places_exact}
use Rattle.session_model.specs.Standing.{numbers_at}
use Rattle.session_index.specs.Index.{same_place, noted_at}

equal_of : (r : Ordering) → is_eq r ≡ true → r ≡ Equal
equal_of Less e = cc
equal_of Equal e = refl
equal_of Greater e = cc

pub same_is : (a b : Place) → same_place a b ≡ true → a ≡ b
same_is a b e = places_exact a b (equal_of (place_cmp a b) e)

one : (place x y : Place) → is_at (place_cmp place) x ≡ true → is_at (place_cmp place) y ≡ eq_by_cmp place_cmp x y
one place x y e = ap is_eq (places_total.congr place x y (equal_of (place_cmp place x) e))

module _ (place other : Place) (n : ℕ) (es : List (Place × List ℕ)) where
  by : (b : Bool) → same_place place other ≡ b → (old : List ℕ) → lookup (is_at (place_cmp place)) es ≡ Some old
      → unwrap_or (cond b (Some (old ++ n ∷ [])) (lookup (is_at (place_cmp other)) es)) [] ≡ (if b then numbers_at es other ++ n ∷ [] else numbers_at es other)
  by true e old has = let here : old ≡ numbers_at es other = sym (ap (λ (o : Option (List ℕ)). unwrap_or o []) has) ∙ ap (numbers_at es) (same_is place other e) in ap (λ l. l ++ n ∷ []) here
  by false e old has = refl

  -- written at a place that is there
  pub written : (old : List ℕ) → lookup (is_at (place_cmp place)) es ≡ Some old → numbers_at (set_value (is_at (place_cmp place)) es (old ++ n ∷ [])) other ≡ noted_at n place (numbers_at es) other
  written old has =
      ap (λ (o : Option (List ℕ)). unwrap_or o []) (lookup-set_value (eq_by_cmp_equiv places_total) (is_at (place_cmp place)) (one place) other (old ++ n ∷ []) es (subst (λ (o : Option (List ℕ)). IsSome o) (sym has) refl))
      ∙ by (same_place place other) refl old has

  new_by : (b : Bool) → same_place place other ≡ b → lookup (is_at (place_cmp place)) es ≡ None
      → unwrap_or (cond b (Some (n ∷ [])) (lookup (is_at (place_cmp other)) es)) [] ≡ (if b then numbers_at es other ++ n ∷ [] else numbers_at es other)
  new_by true e none = let nothing : [] ≡ numbers_at es other = sym (ap (λ (o : Option (List ℕ)). unwrap_or o []) none) ∙ ap (numbers_at es) (same_is place other e) in ap (λ l. l ++ n ∷ []) nothing
  new_by false e none = refl

  -- at a place that is new
  pub inserted : (new : List (Place × List ℕ)) → lookup (is_at (place_cmp other)) new ≡ cond (same_place place other) (Some (n ∷ [])) (lookup (is_at (place_cmp other)) es)
      → lookup (is_at (place_cmp place)) es ≡ None → numbers_at new other ≡ noted_at n place (numbers_at es) other
  inserted new is none = ap (λ (o : Option (List ℕ)). unwrap_or o []) is ∙ new_by (same_place place other) refl none

pub on_ok : {A E : Type 0} {P Q : Type 0} (r : Result A E) → (P → Q) → OnOk r P → OnOk r Q
on_ok (Ok a) f h = f h
on_ok (Err e) f h = tt

-- ---- the least of several

pub lesser_assoc : (a b c : Option ℕ) → lesser (lesser a b) c ≡ lesser a (lesser b c)
lesser_assoc None b c = refl
lesser_assoc (Some a) None c = refl
lesser_assoc (Some a) (Some b) None = refl
lesser_assoc (Some a) (Some b) (Some c) = let e : min (min a b) c ≡ min a (min b c) = omega arith in ap Some e

pub lesser_none : (a : Option ℕ) → lesser a None ≡ a
lesser_none None = refl
lesser_none (Some a) = refl

-- ---- the places of an operation

then_equal : (r s : Ordering) → is_eq (ordering_then r s) ≡ (is_eq r && is_eq s)
then_equal Less s = refl
then_equal Equal s = refl
then_equal Greater s = refl

then_tied : (r : Ordering) → is_eq (ordering_then r Equal) ≡ is_eq r
then_tied Less = refl
then_tied Equal = refl
then_tied Greater = refl

module _ (t : List ℕ) (k : Value) where
  existences : (u : List ℕ) → same_place (Existence t) (Existence u) ≡ same_name t u
  unfolding place_cmp value_cmp
  existences u = then_tied (name_cmp t u)

  all_keys : (u : List ℕ) → same_place (Keys t) (Keys u) ≡ same_name t u
  unfolding place_cmp value_cmp
  all_keys u = then_tied (name_cmp t u)

  keys : (u : List ℕ) (q : Value) → same_place (Key t k) (Key u q) ≡ (same_name t u && same_key k q)
  unfolding place_cmp
  keys u q = then_equal (name_cmp t u) (value_cmp k q)

  existence_other : (u : List ℕ) (q : Value) → (same_place (Existence t) (Keys u) ≡ false) × (same_place (Existence t) (Key u q) ≡ false)
  unfolding place_cmp
  existence_other u q = (refl, refl)

  keys_other : (u : List ℕ) (q : Value) → (same_place (Keys t) (Existence u) ≡ false) × (same_place (Keys t) (Key u q) ≡ false)
  unfolding place_cmp
  keys_other u q = (refl, refl)

  key_other : (u : List ℕ) → (same_place (Key t k) (Existence u) ≡ false) × (same_place (Key t k) (Keys u) ≡ false)
  unfolding place_cmp
  key_other u = (refl, refl)

module _ (n : ℕ) (numbers : Place → List ℕ) where
  abbrev pub put_if : Bool → Place → List ℕ
  put_if b place = if b then numbers place ++ n ∷ [] else numbers place

  -- a create
  pub create_noted : (t : List ℕ) (columns : List Column) (place : Place) → noted_at n (Existence t) numbers place ≡ noted_op n (Create t columns) numbers place
  create_noted t columns (Existence u) = ap (λ b. put_if b (Existence u)) (existences t Null u)
  create_noted t columns (Keys u) = ap (λ b. put_if b (Keys u)) (existence_other t Null u Null).0
  create_noted t columns (Key u q) = ap (λ b. put_if b (Key u q)) (existence_other t Null u q).1

  abbrev pub both : Bool → Bool → Place → List ℕ
  both a b place = if b then put_if a place ++ n ∷ [] else put_if a place

  -- a key, and all keys
  key_noted : (t : List ℕ) (k : Value) (touched : Place → Bool) → ((u : List ℕ) → touched (Existence u) ≡ false) → ((u : List ℕ) → touched (Keys u) ≡ same_name t u) → ((u : List ℕ) (q : Value) → touched (Key u q) ≡ (same_name t u && same_key k q))
      → (place : Place) → noted_at n (Key t k) (noted_at n (Keys t) numbers) place ≡ put_if (touched place) place
  key_noted t k touched none all each (Existence u) =
      ap (λ b. both (same_place (Keys t) (Existence u)) b (Existence u)) (key_other t k u).0 ∙ ap (λ a. put_if a (Existence u)) ((keys_other t k u Null).0 ∙ sym (none u))
  key_noted t k touched none all each (Keys u) =
      ap (λ b. both (same_place (Keys t) (Keys u)) b (Keys u)) (key_other t k u).1 ∙ ap (λ a. put_if a (Keys u)) (all_keys t k u ∙ sym (all u))
  key_noted t k touched none all each (Key u q) =
      ap (λ a. both a (same_place (Key t k) (Key u q)) (Key u q)) (keys_other t k u q).1 ∙ ap (λ b. put_if b (Key u q)) (keys t k u q ∙ sym (each u q))

  pub put_noted : (t : List ℕ) (row : List Value) (place : Place) → noted_at n (Key t (key_of row)) (noted_at n (Keys t) numbers) place ≡ noted_op n (Put t row) numbers place
  put_noted t row = key_noted t (key_of row) (touches (Put t row)) (λ u. refl) (λ u. refl) (λ u q. refl)

  pub remove_noted : (t : List ℕ) (k : Value) (place : Place) → noted_at n (Key t k) (noted_at n (Keys t) numbers) place ≡ noted_op n (Remove t k) numbers place
  remove_noted t k = key_noted t k (touches (Remove t k)) (λ u. refl) (λ u. refl) (λ u q. refl)

-- operations see the numbers place by place
pub ops_alike : (n : ℕ) (ops : List Op) (f g : Place → List ℕ) → ((place : Place) → f place ≡ g place) → (place : Place) → noted_ops n ops f place ≡ noted_ops n ops g place
ops_alike n [] f g same place = same place
ops_alike n (op ∷ ops) f g same place = ops_alike n ops (noted_op n op f) (noted_op n op g) (λ p. ap (λ (l : List ℕ). if touches op p then l ++ n ∷ [] else l) (same p)) place

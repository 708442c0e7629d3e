-- The items of lists.
use Rattle.std.proofs.Common.{◌≡◌, zero, suc, Bool, true, false, cond, inl, inr, List, [], ◌∷◌, ◌++◌, map, refl, sym, ap, subst, ◌∙◌, arith}
use Rattle.std.specs.List.{AllByRecursion, All, filter, flat_map}
use Rattle.std.specs.List.Sorted.{IsStrictlySortedBy, IsPermutation}
use Rattle.std.specs.Ordering.{ordering_reverse}
use Rattle.std.specs.declared.cmp.Ordering.{Ordering}
use Rattle.std.specs.declared.cmp.Ordering.TheVariants.{Less, Greater}
use Rattle.std.specs.Cmp.{IsTotalOrder}
use Rattle.std.proofs.lemmas.List.Sorted.{All-permutation, IsPermutation-sym}
use Rattle.sequenced_query.specs.Spots.{Has}
use Rattle.sequenced_query.proofs.Pairs.{each_of}

pub All-has : {A : Type 0} (P : A → Type 0) (xs : List A) → AllByRecursion P xs → (x : A) → Has x xs → P x
All-has P [] h x has = absurd has
All-has P (y ∷ ys) h x (inl e) = subst P (sym e) h.0
All-has P (y ∷ ys) h x (inr has) = All-has P ys h.1 x has

module _ {A : Type 0} where
  pub has_front : (x : A) (xs ys : List A) → Has x xs → Has x (xs ++ ys)
  has_front x [] ys has = absurd has
  has_front x (y ∷ xs) ys (inl e) = inl e
  has_front x (y ∷ xs) ys (inr has) = inr (has_front x xs ys has)

  pub has_back : (x : A) (xs ys : List A) → Has x ys → Has x (xs ++ ys)
  has_back x [] ys has = has
  has_back x (y ∷ xs) ys has = inr (has_back x xs ys has)

  pub has_last : (x : A) (xs : List A) → Has x (xs ++ x ∷ [])
  has_last x xs = has_back x xs (x ∷ []) (inl refl)

  pub each_has : (xs : List A) → AllByRecursion (λ x. Has x xs) xs
  each_has [] = tt
  each_has (x ∷ xs) = (inl refl, each_of (λ y has. inr has) xs (each_has xs))

  pub has_map : {B : Type 0} (f : A → B) (x : A) (xs : List A) → Has x xs → Has (f x) (map f xs)
  has_map f x [] has = absurd has
  has_map f x (y ∷ xs) (inl e) = inl (ap f e)
  has_map f x (y ∷ xs) (inr has) = inr (has_map f x xs has)

  -- those that pass a test
  pub has_passing : (p : A → Bool) (x : A) (xs : List A) → Has x xs → p x ≡ true → Has x (filter p xs)
  has_passing p x [] has e = absurd has
  has_passing p x (y ∷ xs) (inl same) e = subst (λ b. Has x (cond b (y ∷ filter p xs) (filter p xs))) (sym (ap p (sym same) ∙ e)) (inl same)
  has_passing p x (y ∷ xs) (inr has) e = by (p y) (has_passing p x xs has e)
    where
      by : (b : Bool) → Has x (filter p xs) → Has x (cond b (y ∷ filter p xs) (filter p xs))
      by true there = inr there
      by false there = there

  pub passing_had : (p : A → Bool) (x : A) (xs : List A) → Has x (filter p xs) → Has x xs × (p x ≡ true)
  passing_had p x [] has = absurd has
  passing_had p x (y ∷ xs) has = by (p y) refl has (passing_had p x xs)
    where
      later : Has x xs × (p x ≡ true) → Has x (y ∷ xs) × (p x ≡ true)
      later h = (inr h.0, h.1)

      by : (b : Bool) → p y ≡ b → Has x (cond b (y ∷ filter p xs) (filter p xs)) → (Has x (filter p xs) → Has x xs × (p x ≡ true)) → Has x (y ∷ xs) × (p x ≡ true)
      by true e (inl same) rest = (inl same, ap p same ∙ e)
      by true e (inr there) rest = later (rest there)
      by false e there rest = later (rest there)

pub has_flat : {A B : Type 0} (C : A → List B) (x : A) (b : B) (xs : List A) → Has x xs → Has b (C x) → Has b (flat_map C xs)
has_flat C x b [] has here = absurd has
has_flat C x b (y ∷ xs) (inl e) here = has_front b (C y) (flat_map C xs) (subst (λ z. Has b (C z)) e here)
has_flat C x b (y ∷ xs) (inr has) here = has_back b (C y) (flat_map C xs) (has_flat C x b xs has here)

-- ---- lists in order with the same items

module _ {A : Type 0} {R : A → A → Ordering} (o : IsTotalOrder R) where
  not_both : (x y : A) → R x y ≡ Less → R y x ≡ Less → ⊥
  not_both x y a b = let turned : R x y ≡ Greater = o.antisymm x y ∙ ap ordering_reverse b in cc

  first_same : (x y : A) (xs ys : List A) → AllByRecursion (λ z. R x z ≡ Less) xs → AllByRecursion (λ z. R y z ≡ Less) ys → Has x (y ∷ ys) → Has y (x ∷ xs) → x ≡ y
  first_same x y xs ys below_x below_y (inl e) there = e
  first_same x y xs ys below_x below_y (inr has) (inl e) = sym e
  first_same x y xs ys below_x below_y (inr has) (inr there) = absurd (not_both x y (All-has (λ z. R x z ≡ Less) xs below_x y there) (All-has (λ z. R y z ≡ Less) ys below_y x has))

  rest_has : (x y z : A) (xs ys : List A) → x ≡ y → AllByRecursion (λ z. R x z ≡ Less) xs → Has z xs → Has z (y ∷ ys) → Has z ys
  rest_has x y z xs ys same below has (inl e) =
      let less : R x z ≡ Less = All-has (λ w. R x w ≡ Less) xs below z has in
      let again : R x x ≡ Less = ap (R x) (same ∙ sym e) ∙ less in
      absurd (not_both x x again again)
  rest_has x y z xs ys same below has (inr there) = there

  pub same_items : (xs ys : List A) → IsStrictlySortedBy R xs → IsStrictlySortedBy R ys → ((z : A) → Has z xs → Has z ys) → ((z : A) → Has z ys → Has z xs) → xs ≡ ys
  unfolding IsStrictlySortedBy
  same_items [] [] sx sy to back = refl
  same_items [] (y ∷ ys) sx sy to back = absurd (back y (inl refl))
  same_items (x ∷ xs) [] sx sy to back = absurd (to x (inl refl))
  same_items (x ∷ xs) (y ∷ ys) sx sy to back =
      let same : x ≡ y = first_same x y xs ys sx.0 sy.0 (to x (inl refl)) (back y (inl refl)) in
      let rest : xs ≡ ys = same_items xs ys sx.1 sy.1 (λ z has. rest_has x y z xs ys same sx.0 has (to z (inr has))) (λ z has. rest_has y x z ys xs (sym same) sy.0 has (back z (inr has))) in
      cc

-- ---- lists with the same items in another order

module _ {A : Type 0} (P : A → Type 0) where
  at_each : (xs : List A) → AllByRecursion P xs → All P xs
  at_each [] h k d lt = absurd (omega (arith, lt))
  at_each (x ∷ xs) h zero d lt = h.0
  at_each (x ∷ xs) h (suc k) d lt = at_each xs h.1 k d (omega (arith, lt))

  of_each : (xs : List A) → All P xs → (x : A) → Has x xs → P x
  of_each [] h x has = absurd has
  of_each (y ∷ xs) h x (inl e) = subst P (sym e) (h 0 y (omega arith))
  of_each (y ∷ xs) h x (inr has) = of_each xs (λ k d lt. h (suc k) d (omega (arith, lt))) x has

pub has_permuted : {A : Type 0} (xs ys : List A) → IsPermutation xs ys → (x : A) → Has x xs → Has x ys
has_permuted xs ys moved = of_each (λ y. Has y ys) xs (All-permutation (λ y. Has y ys) ys xs (IsPermutation-sym xs ys moved) (at_each (λ y. Has y ys) ys (each_has ys)))

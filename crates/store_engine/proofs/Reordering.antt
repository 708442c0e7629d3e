-- Transactions in another order, where those of each moment stand in the same order as before.
use Rattle.std.proofs.Common.{◌≡◌, ℕ, zero, suc, ◌≤◌, Bool, true, false, cond, eqb, filter, nat_cmp, is_lt, Option, List, [], ◌∷◌, ◌++◌, refl, sym, ap, subst, ◌∙◌, arith}
use Rattle.std.specs.List.{AllByRecursion}
use Rattle.std.specs.List.Sorted.{ties, IsStableByKey}
use Rattle.std.proofs.lemmas.Bool.{eq-eqb, eqb-true, eqb-false}
use Rattle.std.proofs.lemmas.Bool.Decides.{nat_tests}
use Rattle.tuple_bytes.specs.declared.value.Value.{Value}
use Rattle.tuple_bytes.specs.declared.item.Txn.{Txn}
use Rattle.history_model.specs.State.{State, at_moment, after_txns, state}
use Rattle.history_model.specs.Changes.{changes_along, changes_of}
use Rattle.tt_table.specs.Versions.{TablesVersions}
use Rattle.tt_table.specs.Stands.{StandsFor, versions_from}

module _ (P : Txn → Type 0) where
  rest_of : (b : Bool) (t : Txn) (ts : List Txn) → AllByRecursion P (cond b (t ∷ ts) ts) → AllByRecursion P ts
  rest_of true t ts h = h.1
  rest_of false t ts h = h

  first_of_all : (b : Bool) (t : Txn) (ts : List Txn) → b ≡ true → AllByRecursion P (cond b (t ∷ ts) ts) → P t
  first_of_all true t ts is h = h.0
  first_of_all false t ts is h = absurd cc

  -- what holds of all of each moment holds of all
  all_at : (ts : List Txn) → ((m : ℕ) → AllByRecursion P (at_moment m ts)) → AllByRecursion P ts
  all_at [] h = tt
  all_at (t ∷ ts) h = (
    first_of_all (eqb t.moment t.moment) t (at_moment t.moment ts) (eq-eqb t.moment t.moment refl) (h t.moment),
    all_at ts (λ m. rest_of (eqb t.moment m) t (at_moment m ts) (h m)),
  )

  either : (b : Bool) (t : Txn) (ts : List Txn) → P t → AllByRecursion P ts → AllByRecursion P (cond b (t ∷ ts) ts)
  either true t ts p h = (p, h)
  either false t ts p h = h

  kept_at : (ts : List Txn) (m : ℕ) → AllByRecursion P ts → AllByRecursion P (at_moment m ts)
  kept_at [] m h = tt
  kept_at (t ∷ ts) m h = either (eqb t.moment m) t (at_moment m ts) h.0 (kept_at ts m h.1)

module _ (xs ys : List Txn) (same : (m : ℕ) → at_moment m ys ≡ at_moment m xs) where
  pub all_reordered : (P : Txn → Type 0) → AllByRecursion P xs → AllByRecursion P ys
  all_reordered P h = all_at P ys (λ m. subst (AllByRecursion P) (sym (same m)) (kept_at P xs m h))

  state_same : (m : ℕ) → state ys m ≡ state xs m
  unfolding state
  state_same zero = ap (λ (ts : List Txn). after_txns ts []) (same 0)
  state_same (suc m) = ap (λ (ts : List Txn). after_txns ts (state ys m)) (same (suc m)) ∙ ap (after_txns (at_moment (suc m) xs)) (state_same m)

  changes_same : (name : List ℕ) (key : Value) (m : ℕ) → changes_of name key ys m ≡ changes_of name key xs m
  unfolding changes_of
  changes_same name key zero = ap (λ (ts : List Txn). changes_along name key ts []) (same 0)
  changes_same name key (suc m) =
      ap (λ (ts : List Txn). changes_of name key ys m ++ changes_along name key ts (state ys m)) (same (suc m))
      ∙ ap (λ (s : State). changes_of name key ys m ++ changes_along name key (at_moment (suc m) xs) s) (state_same m)
      ∙ ap (λ (l : List (ℕ × Option (List Value))). l ++ changes_along name key (at_moment (suc m) xs) (state xs m)) (changes_same name key m)

  -- tables that stand for the ones stand for the others
  pub stands_reordered : (all : TablesVersions) → StandsFor all xs → StandsFor all ys
  stands_reordered all stands = record {
    none_later = all_reordered (λ t. t.moment ≤ all.last) stands.none_later;
    states = λ m. stands.states m ∙ sym (state_same m);
    versions = λ name key. stands.versions name key ∙ ap versions_from (sym (changes_same name key all.last));
  }

-- ---- a stable sort by moment

filter_by : (p q : Txn → Bool) → ((t : Txn) → p t ≡ q t) → (ts : List Txn) → filter p ts ≡ filter q ts
filter_by p q same [] = refl
filter_by p q same (t ∷ ts) = ap (λ (b : Bool). cond b (t ∷ filter p ts) (filter p ts)) (same t) ∙ ap (λ (l : List Txn). cond (q t) (t ∷ l) l) (filter_by p q same ts)

abbrev below : ℕ → ℕ → Bool
below m n = is_lt (nat_cmp m n)

ties_at : (m n : ℕ) → (ties below m n ≡ true → m ≡ n) × (m ≡ n → ties below m n ≡ true)
ties_at m n = (λ h. grind (arith, nat_tests), λ h. grind (arith, nat_tests))

moment_ties : (m n : ℕ) → ties below m n ≡ eqb n m
moment_ties m n = by (ties below m n) (eqb n m) refl refl
  where
    by : (a b : Bool) → ties below m n ≡ a → eqb n m ≡ b → a ≡ b
    by true true e f = refl
    by false false e f = refl
    by true false e f = absurd (eqb-false n m f (sym ((ties_at m n).0 e)))
    by false true e f = let h : ties below m n ≡ true = (ties_at m n).1 (sym (eqb-true n m f)) in absurd cc

pub stable_at : (xs ys : List Txn) → IsStableByKey (λ (t : Txn). t.moment) nat_cmp xs ys → (m : ℕ) → at_moment m ys ≡ at_moment m xs
stable_at xs ys stable m =
    let x : Txn = record { number = 0; moment = m; ops = [] } in
    let same = λ (t : Txn). sym (moment_ties m t.moment) in
    filter_by (λ (t : Txn). eqb t.moment m) (λ (t : Txn). ties below m t.moment) same ys
    ∙ stable x
    ∙ sym (filter_by (λ (t : Txn). eqb t.moment m) (λ (t : Txn). ties below m t.moment) same xs)

-- a property of the last of some
pub all_last : {A : Type 0} (P : A → Type 0) (xs : List A) (x : A) → AllByRecursion P (xs ++ x ∷ []) → P x
all_last P [] x h = h.0
all_last P (y ∷ xs) x h = all_last P xs x h.1

pub all_but_last : {A : Type 0} (P : A → Type 0) (xs : List A) (x : A) → AllByRecursion P (xs ++ x ∷ []) → AllByRecursion P xs
all_but_last P [] x h = tt
all_but_last P (y ∷ xs) x h = (h.0, all_but_last P xs x h.1)

-- A sure device counts no fault but for a changing call that failed.
use Rattle.std.proofs.Common.{◌≡◌, ℕ, ◌+◌, ◌-◌, ◌^◌, ◌<◌, ◌≤◌, Bool, true, false, cond, List, [], ◌∷◌, ◌++◌, length, Option, Some, IfSome, Result, refl, sym, ◌∙◌, ap, subst, arith, length-append}
use Rattle.std.specs.Prelude.{IsErrOf, Contains}
use Rattle.std.specs.List.{count_by}
use Rattle.std.proofs.lemmas.List.Sums.{sum_by-cons}
use Rattle.outside_words.specs.Faults.{Rose, HasCause}
use Rattle.outside_words.specs.Listed.{listed_from}
use Rattle.outside_words.specs.Quiet.{none_listed, RisesByFailed}
use Rattle.outside_words.specs.Runs.{after_calls}
use Rattle.outside_words.specs.Trace.{AsPlanned, Continues}

-- ---- no call is listed

pub none_contained : (listed : List ℕ) (number : ℕ) → none_listed listed ≡ true → Contains listed number → ⊥
none_contained [] number none is = grind (arith, is)
none_contained (first ∷ listed) number none is = absurd cc

pub none_planned : (from : ℕ) (listed : List ℕ) (t : ℕ) → none_listed listed ≡ true → listed_from from listed t ≡ false
none_planned from [] t none = refl
none_planned from (number ∷ listed) t none = absurd cc

-- ---- how many failed

module _ {A : Type 0} (failed : A → Bool) where
  pub one_counted : (call : A) (calls : List A) → count_by failed (call ∷ calls) ≡ cond (failed call) 1 0 + count_by failed calls
  one_counted call calls = sum_by-cons (λ (c : A). cond (failed c) 1 0) call calls

  pub one_failed : (call : A) (calls : List A) → failed call ≡ true → count_by failed (call ∷ calls) ≡ 1 + count_by failed calls
  one_failed call calls is = one_counted call calls ∙ ap (λ (b : Bool). cond b 1 0 + count_by failed calls) is

  pub one_passed : (call : A) (calls : List A) → failed call ≡ false → count_by failed (call ∷ calls) ≡ count_by failed calls
  one_passed call calls is =
      let same = one_counted call calls ∙ ap (λ (b : Bool). cond b 1 0 + count_by failed calls) is in
      omega (arith, same)

  none_failed : (fails : ℕ → Bool) (old added : List A) → ((t : ℕ) → length old ≤ t → fails t ≡ false) → AsPlanned failed fails (length old) (added ++ old) → count_by failed (added ++ old) ≡ count_by failed old
  none_failed fails old [] none planned = refl
  none_failed fails old (call ∷ added) none planned =
      let le : length old ≤ length (added ++ old) = omega (arith, length-append added old) in
      one_passed call (added ++ old) (planned.0 le ∙ none (length (added ++ old)) le) ∙ none_failed fails old added none planned.1

  pub all_passed : {C : Type 0} (done : C → A) (passes : (call : C) → failed (done call) ≡ false) (calls : List C) (old : List A) → count_by failed (after_calls done calls old) ≡ count_by failed old
  all_passed done passes [] old = refl
  all_passed done passes (call ∷ calls) old = all_passed done passes calls (done call ∷ old) ∙ one_passed (done call) old (passes call)

  -- ---- how often a device counted one

  module _ (before now : ℕ) (old new : List A) (later : before ≤ now) (rises : RisesByFailed failed before now old new) where
    -- none where as many failed as before
    pub none_counted : count_by failed new ≡ count_by failed old → now ≡ before
    none_counted same = omega (arith, same, later, rises)

    -- none where none is to fail
    pub none_to_fail : (plan : Option (ℕ → Bool)) (fails : ℕ → Bool) → plan ≡ Some fails → ((t : ℕ) → length old ≤ t → fails t ≡ false) → Continues failed plan old new → now ≡ before
    none_to_fail plan fails is none on = none_counted (subst (λ (l : List A). count_by failed l ≡ count_by failed old) (sym on.extends.is) (none_failed fails old on.extends.added none (subst (λ (l : List A). AsPlanned failed fails (length old) l) on.extends.is planned)))
      where
        planned : AsPlanned failed fails (length old) new
        planned = subst (λ (p : Option (ℕ → Bool)). IfSome p (λ f. AsPlanned failed f (length old) new)) is on.planned

-- a count that stands still, and not at its last value, is no cause
pub not_risen : (before now : ℕ) → now ≡ before → before < 2 ^ 64 - 1 → Rose before now → ⊥
not_risen before now same few rose = omega (arith, same, few, rose)

pub no_cause : {T E : Type 0} (fault : E) (before now : ℕ) (result : Result T E) → now ≡ before → before < 2 ^ 64 - 1 → HasCause fault before now result → IsErrOf result fault → ⊥
no_cause fault before now result same few cause is = not_risen before now same few (cause is)

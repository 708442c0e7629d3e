-- How many calls a run made where one was planned to fail.
use Rattle.std.proofs.Common.{◌≡◌, inl, inr, ℕ, zero, suc, ◌+◌, ◌<◌, ◌≤◌, Bool, true, false, List, [], ◌∷◌, length, take, refl, ◌∙◌, ap, subst, arith}
use Rattle.std.specs.List.{count_by}
use Rattle.outside_words.specs.Runs.{after_calls, FailsAfter}
use Rattle.outside_words.specs.Trace.{AsPlanned, FirstFails}
use Rattle.outside_words.proofs.Quiet.{one_passed}
use Rattle.notary_link.specs.declared.fail.NotaryFail.TheVariants.{Full}
use Rattle.notary_link.specs.Notary.{Call, Entry, is_failed}
use Rattle.notary_link.specs.Runs.{is_done, was_answered}
use Rattle.store_world.specs.CallsMade.{IsAnswered}

-- after so many calls that were done, and one that failed
pub record FailedOne {C A : Type 0} (done failed : C → A) (passed : ℕ) (calls : List C) (old new : List A) : Type 0 where
  pub call : C
  pub is : new ≡ failed call ∷ after_calls done (take passed calls) old
  pub more : passed < length calls

module _ {C A : Type 0} (done failed : C → A) where
  pub failed_one : (passed : ℕ) (calls : List C) (old new : List A) → FailsAfter done failed passed calls old new → FailedOne done failed passed calls old new
  failed_one passed [] old new none = absurd none
  failed_one zero (call ∷ calls) old new is = record { call = call; is = is; more = omega arith }
  failed_one (suc passed) (call ∷ calls) old new later =
      let rest = failed_one passed calls (done call ∷ old) new later in
      record { call = rest.call; is = rest.is; more = omega (arith, rest.more) }

-- ---- the notary's calls, of which the last may be refused

module _ (fails : ℕ → Bool) (from : ℕ) where
  abbrev Planned : List Entry → Type 0
  Planned = AsPlanned is_failed fails from

  answered_front : (calls : List Call) (old new : List Entry) → IsAnswered calls old new → Planned new → Planned old
  answered_front [] old new is planned = subst Planned is planned
  answered_front (call ∷ []) old new (inl is) planned = (subst Planned is planned).1
  answered_front (call ∷ []) old new (inr is) planned = (subst Planned is planned).1
  answered_front (call ∷ other ∷ calls) old new later planned = (answered_front (other ∷ calls) (is_done call ∷ old) new later planned).1

  at_once : (turn : ℕ) → FirstFails fails turn 0 → fails turn ≡ true
  at_once turn plan = let e : turn + 0 ≡ turn = omega arith in subst (λ (t : ℕ). fails t ≡ true) e plan.first

  pass_one : (turn passed : ℕ) → FirstFails fails turn (suc passed) → FirstFails fails (suc turn) passed
  pass_one turn passed plan = record {
    first = let e : suc turn + passed ≡ turn + suc passed = omega arith in rw e plan.first;
    none_before = λ i l. let e : suc turn + i ≡ turn + suc i = omega arith in rw e (plan.none_before (suc i) (omega (arith, l)));
  }

  pub answered_within : (passed : ℕ) (calls : List Call) (old new : List Entry) → from ≤ length old → FirstFails fails (length old) passed → Planned new → IsAnswered calls old new → length calls ≤ passed
  answered_within passed [] old new le plan planned is = omega arith
  answered_within (suc passed) (call ∷ []) old new le plan planned is = omega arith
  answered_within zero (call ∷ []) old new le plan planned (inl is) =
      let passed_it : false ≡ fails (length old) = (subst Planned is planned).0 le in
      let here = at_once (length old) plan in
      absurd cc
  answered_within zero (call ∷ []) old new le plan planned (inr is) =
      let passed_it : false ≡ fails (length old) = (subst Planned is planned).0 le in
      let here = at_once (length old) plan in
      absurd cc
  answered_within zero (call ∷ other ∷ calls) old new le plan planned later =
      let passed_it : false ≡ fails (length old) = (answered_front (other ∷ calls) (is_done call ∷ old) new later planned).0 le in
      let here = at_once (length old) plan in
      absurd cc
  answered_within (suc passed) (call ∷ other ∷ calls) old new le plan planned later =
      omega (arith, answered_within passed (other ∷ calls) (is_done call ∷ old) new (omega (arith, le)) (pass_one (length old) passed plan) planned later)

-- none of them counts as failed
pub answered_quiet : (calls : List Call) (old new : List Entry) → IsAnswered calls old new → count_by is_failed new ≡ count_by is_failed old
answered_quiet [] old new is = ap (count_by is_failed) is
answered_quiet (call ∷ []) old new (inl is) = ap (count_by is_failed) is ∙ one_passed is_failed (is_done call) old refl
answered_quiet (call ∷ []) old new (inr is) = ap (count_by is_failed) is ∙ one_passed is_failed (was_answered Full call) old refl
answered_quiet (call ∷ other ∷ calls) old new later = answered_quiet (other ∷ calls) (is_done call ∷ old) new later ∙ one_passed is_failed (is_done call) old refl

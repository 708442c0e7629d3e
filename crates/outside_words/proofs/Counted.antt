-- How many calls of a run failed.
use Rattle.std.proofs.Common.{◌≡◌, inl, inr, ℕ, zero, suc, ◌+◌, Bool, true, false, List, [], ◌∷◌, ◌∙◌, ap}
use Rattle.std.specs.List.{count_by}
use Rattle.outside_words.specs.Runs.{StopsAtFailed, StopsBefore, FailsAfter}
use Rattle.outside_words.proofs.Quiet.{one_failed, one_passed}

module _ {C A : Type 0} (is_failed : A → Bool) (done failed : C → A) (passes : (call : C) → is_failed (done call) ≡ false) (stops : (call : C) → is_failed (failed call) ≡ true) where
  -- one, where it stopped at one
  pub stopped_once : (calls : List C) (old new : List A) → StopsAtFailed done failed calls old new → count_by is_failed new ≡ 1 + count_by is_failed old
  stopped_once [] old new none = absurd none
  stopped_once (call ∷ calls) old new (inl is) = ap (count_by is_failed) is ∙ one_failed is_failed (failed call) old (stops call)
  stopped_once (call ∷ calls) old new (inr later) = stopped_once calls (done call ∷ old) new later ∙ ap (λ (n : ℕ). 1 + n) (one_passed is_failed (done call) old (passes call))

  pub fails_once : (passed : ℕ) (calls : List C) (old new : List A) → FailsAfter done failed passed calls old new → count_by is_failed new ≡ 1 + count_by is_failed old
  fails_once passed [] old new none = absurd none
  fails_once zero (call ∷ calls) old new is = ap (count_by is_failed) is ∙ one_failed is_failed (failed call) old (stops call)
  fails_once (suc passed) (call ∷ calls) old new later = fails_once passed calls (done call ∷ old) new later ∙ ap (λ (n : ℕ). 1 + n) (one_passed is_failed (done call) old (passes call))

  -- and none where memory wanted
  pub stopped_before : (calls : List C) (old new : List A) → StopsBefore done calls old new → count_by is_failed new ≡ count_by is_failed old
  stopped_before [] old new none = absurd none
  stopped_before (call ∷ calls) old new (inl is) = ap (count_by is_failed) is
  stopped_before (call ∷ calls) old new (inr later) = stopped_before calls (done call ∷ old) new later ∙ one_passed is_failed (done call) old (passes call)

-- Over a sure disk no fault comes but of a changing call that failed.
use Rattle.std.proofs.Common.{◌≡◌, ℕ, ◌≤◌, Bool, true, false, List, Some, ap}
use Rattle.std.specs.List.{count_by}
use Rattle.outside_words.specs.Listed.{listed_from}
use Rattle.outside_words.specs.Quiet.{none_listed}
use Rattle.outside_words.proofs.Quiet.{none_planned, none_counted, none_to_fail}
use Rattle.disk_words.specs.Disk.{State, turn, is_failed, GoesOn}

module _ (old new : State) (on : GoesOn old new) (sure : old.sure ≡ true) where
  -- none where as many calls failed as before
  pub as_many_failed : count_by is_failed new.trace ≡ count_by is_failed old.trace → new.faults ≡ old.faults
  as_many_failed same = none_counted is_failed old.faults new.faults old.trace new.trace on.faults (on.quiet sure) same

  -- as where no changing call was made
  pub no_change : new.trace ≡ old.trace → new.faults ≡ old.faults
  no_change same = as_many_failed (ap (count_by is_failed) same)

  -- none where none is to fail
  pub none_planned_to : (fails : ℕ → Bool) → old.plan ≡ Some fails → ((t : ℕ) → turn old ≤ t → fails t ≡ false) → new.faults ≡ old.faults
  none_planned_to fails is none = none_to_fail is_failed old.faults new.faults old.trace new.trace on.faults (on.quiet sure) old.plan fails is none on.trace

  -- as where none is listed
  pub none_listed_to : (from : ℕ) (listed : List ℕ) → old.plan ≡ Some (listed_from from listed) → none_listed listed ≡ true → new.faults ≡ old.faults
  none_listed_to from listed is none = none_planned_to (listed_from from listed) is (λ t le. none_planned from listed t none)

-- How often a sure disk counts a fault in a run of calls.
use Rattle.std.proofs.Common.{◌≡◌, ◌≤◌, ◌+◌, true, List, Ok, Err, refl, ap, ◌∙◌, arith}
use Rattle.std.specs.List.{count_by}
use Rattle.outside_words.proofs.Counted.{stopped_once, stopped_before}
use Rattle.outside_words.proofs.Quiet.{all_passed}
use Rattle.disk_words.specs.declared.DiskFail.TheVariants.{Failed, NoMemory}
use Rattle.disk_words.specs.Disk.{Call, State, is_failed, GoesOn}
use Rattle.disk_words.proofs.Quiet.{as_many_failed}
use Rattle.disk_model.specs.Moments.{is_done, has_failed, MakesCalls}

module _ (calls : List Call) (old new : State) (on : GoesOn old new) (sure : old.sure ≡ true) where
  pub done_quiet : MakesCalls calls (Ok tt) old new → new.faults ≡ old.faults
  done_quiet made = as_many_failed old new on sure (ap (count_by is_failed) made ∙ all_passed is_failed is_done (λ call. refl) calls old.trace)

  pub failed_once : MakesCalls calls (Err Failed) old new → new.faults ≤ old.faults + 1
  failed_once made = omega (arith, on.quiet sure, stopped_once is_failed is_done has_failed (λ call. refl) (λ call. refl) calls old.trace new.trace made)

  pub wanted_quiet : MakesCalls calls (Err NoMemory) old new → new.faults ≡ old.faults
  wanted_quiet made = as_many_failed old new on sure (stopped_before is_failed is_done has_failed (λ call. refl) (λ call. refl) calls old.trace new.trace made)

-- Calls of a notary that change nothing, one after another.
use Rattle.notary_link.specs.Notary.{State, Unchanged, GoesOn}
use Rattle.notary_link.proofs.Frame.{goes_on_then}
use Rattle.notary_link.proofs.Unchanged.{unchanged_then}

-- a call leaves the notary as it was
pub record Leaves (old new : State) : Type 0 where
  pub same : Unchanged old new
  pub frame : GoesOn old new

pub leaves_then : (old mid new : State) → Leaves old mid → Leaves mid new → Leaves old new
leaves_then old mid new first next = record {
  same = unchanged_then old mid new first.frame next.frame first.same next.same;
  frame = goes_on_then old mid new first.frame next.frame;
}

pub after_two : (a b c : State) → Unchanged a b → GoesOn a b → Unchanged b c → GoesOn b c → Leaves a c
after_two a b c same_one one same_two two = leaves_then a b c (record { same = same_one; frame = one }) (record { same = same_two; frame = two })

pub after_three : (a b c d : State) → Unchanged a b → GoesOn a b → Unchanged b c → GoesOn b c → Unchanged c d → GoesOn c d → Leaves a d
after_three a b c d same_one one same_two two same_three three = leaves_then a c d (after_two a b c same_one one same_two two) (record { same = same_three; frame = three })

pub after_four : (a b c d e : State) → Unchanged a b → GoesOn a b → Unchanged b c → GoesOn b c → Unchanged c d → GoesOn c d → Unchanged d e → GoesOn d e → Leaves a e
after_four a b c d e same_one one same_two two same_three three same_four four =
    leaves_then a d e (after_three a b c d same_one one same_two two same_three three) (record { same = same_four; frame = four })

use Rattle.std.proofs.Common.{◌≡◌, ◌+◌, ◌-◌, ◌<◌, ◌≤◌, true, length}
use Rattle.outside_words.specs.Told.{WhereTold}
use Rattle.notary_link.specs.Notary.{Unchanged, GoesOn}
use Rattle.audit_model.specs.Tree.{digit_count}
use Rattle.mono_forensics.specs.Finds.{link_answers}
use Rattle.mono_forensics.proofs.Between.{AreBetween}
use Rattle.mono_forensics.proofs.Halving.{HasQuestions}
use Rattle.mono_forensics.proofs.search.first_bad.Given as goal

abbrev pub invariant-loop-low : goal.invariant-loop-low
invariant-loop-low g l = let S = g.N.Notary.state in record {
  some : l.low ≤ l.high;
  within : l.high < length l.links;
  told : WhereTold (S l.fn.notary).lists (S l.notary).lists (λ before after. AreBetween (link_answers before l.id l.links) (length l.links - 1) l.low l.high);
  same : Unchanged (S l.fn.notary) (S l.notary);
  few : HasQuestions (l.high - l.low) (S l.notary).asked ((S l.fn.notary).asked + digit_count (length l.links) + 1);
  frame : GoesOn (S l.fn.notary) (S l.notary);
  counted : (S l.fn.notary).shows ≡ true → (S l.notary).faults ≡ (S l.fn.notary).faults;
}

abbrev pub decreases-loop-low : goal.decreases-loop-low
decreases-loop-low g l = l.high - l.low

use Rattle.std.proofs.Common.{◌≡◌, ◌≤◌, ◌+◌, ◌-◌, true}
use Rattle.outside_words.specs.Told.{WhereTold}
use Rattle.notary_link.specs.Notary.{Unchanged, GoesOn}
use Rattle.validator.proofs.Asked.{AreSame}
use Rattle.validator.proofs.asking.are_same.Given as goal

abbrev pub invariant-loop-number : goal.invariant-loop-number
invariant-loop-number g l = let S = g.N.Notary.state in record {
  some : 1 ≤ l.number;
  told : WhereTold (S l.fn.notary).lists (S l.notary).lists (λ before after. AreSame l.eras (l.number - 1) (before.batches l.id));
  same : Unchanged (S l.fn.notary) (S l.notary);
  few : (S l.notary).asked ≤ (S l.fn.notary).asked + (l.number - 1);
  frame : GoesOn (S l.fn.notary) (S l.notary);
  counted : (S l.fn.notary).shows ≡ true → (S l.notary).faults ≡ (S l.fn.notary).faults;
}

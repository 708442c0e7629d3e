use Rattle.std.proofs.Common.{◌≡◌, ◌+◌, ◌≤◌, true}
use Rattle.outside_words.specs.Told.{WhereTold}
use Rattle.notary_link.specs.Notary.{Unchanged, GoesOn}
use Rattle.audit_model.specs.Notary.{nodes_of}
use Rattle.a3d_forensics.specs.Rooted.{IsFoundAbove}
use Rattle.a3d_forensics.proofs.Rooted.{GoesDown}
use Rattle.a3d_forensics.proofs.descent.descend_tree.Given as goal

abbrev pub invariant-loop-level : goal.invariant-loop-level
invariant-loop-level g l = let S = g.N.Notary.state in record {
  within : l.level ≤ 32;
  above : IsFoundAbove l.tree l.level l.fn.found l.found;
  told : WhereTold (S l.fn.notary).lists (S l.notary).lists (λ before after. GoesDown (nodes_of (before.batches l.id) l.plan.history) l.tree l.fn.found l.level l.found);
  same : Unchanged (S l.fn.notary) (S l.notary);
  few : (S l.notary).asked + l.fn.found.checks ≤ (S l.fn.notary).asked + l.found.checks;
  frame : GoesOn (S l.fn.notary) (S l.notary);
  counted : (S l.fn.notary).shows ≡ true → (S l.notary).faults ≡ (S l.fn.notary).faults;
}

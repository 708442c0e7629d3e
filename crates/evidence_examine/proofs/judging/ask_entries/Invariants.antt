use Rattle.std.proofs.Common.{◌≡◌, ◌≤◌, ◌+◌, true, drop}
use Rattle.std.specs.List.{sum_by}
use Rattle.outside_words.specs.Told.{WhereTold}
use Rattle.notary_link.specs.Notary.{Unchanged, GoesOn}
use Rattle.evidence_examine.specs.Places.{layout_of}
use Rattle.evidence_examine.specs.Examining.{list_count}
use Rattle.evidence_examine.specs.Judging.{txn_count}
use Rattle.evidence_examine.proofs.Answered.{AreSoFar}
use Rattle.evidence_examine.proofs.judging.ask_entries.Given as goal

abbrev pub invariant-loop-entry : goal.invariant-loop-entry
invariant-loop-entry g l = let S = g.N.Notary.state in record {
  told : WhereTold (S l.fn.notary).lists (S l.notary).lists (λ before after. AreSoFar (before.batches l.id) (layout_of l.evidence) l.evidence.entries l.entry-index l.all.items);
  steps : l.steps + sum_by txn_count (drop l.entry-index l.evidence.entries) ≤ l.fn.steps + sum_by txn_count l.evidence.entries;
  same : Unchanged (S l.fn.notary) (S l.notary);
  few : (S l.notary).asked + sum_by list_count (drop l.entry-index l.evidence.entries) ≤ (S l.fn.notary).asked + sum_by list_count l.evidence.entries;
  frame : GoesOn (S l.fn.notary) (S l.notary);
  counted : (S l.fn.notary).shows ≡ true → (S l.notary).faults ≡ (S l.fn.notary).faults;
}

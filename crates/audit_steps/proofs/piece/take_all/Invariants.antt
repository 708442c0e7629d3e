use Rattle.std.proofs.Common.{◌≡◌, ◌+◌, List, ◌++◌, take, Some}
use Rattle.tuple_bytes.specs.declared.header.Header.{Header}
use Rattle.tuple_bytes.specs.declared.item.Item.{Item}
use Rattle.chain_state.specs.Chained.{steps_of}
use Rattle.audit_steps.specs.Auditing.{AreTakenOrNone}
use Rattle.audit_steps.proofs.piece.take_all.Given as goal

abbrev pub invariant-loop-spelling : goal.invariant-loop-spelling
invariant-loop-spelling g l = record {
  taken : (header : Header) (taken : List Item) → AreTakenOrNone header taken (Some l.fn.chains) → AreTakenOrNone header (taken ++ take l.spelling-index l.items) (Some l.chains);
  under : l.chains.header ≡ l.fn.chains.header;
  steps : l.steps ≡ l.fn.steps + steps_of (take l.spelling-index l.items);
}

use Rattle.std.proofs.Common.{◌≡◌, take}
use Rattle.book_inspect.specs.Copies.{filed_of, noted_of}
use Rattle.book_inspect.proofs.copies.lists_by.Given as goal

-- those of the payloads so far
abbrev pub invariant-loop-payload : goal.invariant-loop-payload
invariant-loop-payload l = record {
  filed : l.filed ≡ filed_of l.id (take l.payload-index l.payloads);
  noted : l.noted ≡ noted_of l.id (take l.payload-index l.payloads);
}

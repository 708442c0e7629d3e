use Rattle.std.proofs.Common.{◌≤◌, take}
use Rattle.book_inspect.specs.KnownCopies.{KnowsApart}
use Rattle.book_inspect.proofs.copies.Compared.of.Given as goal

-- what the payloads so far say
abbrev pub invariant-loop-payload : goal.invariant-loop-payload
invariant-loop-payload l = record {
  known : KnowsApart l.id l.other l.compared (take l.payload-index l.payloads);
  few : l.compared.entries ≤ l.payload-index;
}

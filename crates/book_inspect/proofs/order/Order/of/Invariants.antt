use Rattle.std.proofs.Common.{◌≤◌, take}
use Rattle.notary_book.specs.Books.{calls_in}
use Rattle.book_inspect.specs.KnownOrder.{KnowsOrder}
use Rattle.book_inspect.proofs.order.Order.of.Given as goal

-- what the payloads so far say
abbrev pub invariant-loop-payload : goal.invariant-loop-payload
invariant-loop-payload l = record {
  known : KnowsOrder l.order (calls_in (take l.payload-index l.payloads));
  few : l.order.entries ≤ l.payload-index;
}

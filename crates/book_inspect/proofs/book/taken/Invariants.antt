use Rattle.std.proofs.Common.{◌≡◌, ◌≤◌, take}
use Rattle.notary_book.specs.Books.{calls_in}
use Rattle.book_inspect.specs.KnownEntries.{KnowsEntries}
use Rattle.book_inspect.proofs.book.taken.Given as goal

-- what the payloads so far say
abbrev pub invariant-loop-payload : goal.invariant-loop-payload
invariant-loop-payload l = record {
  known : KnowsEntries l.id l.entries (calls_in (take l.payload-index l.payloads));
  own : l.entries.id ≡ l.id;
  few : l.entries.count ≤ l.payload-index;
}

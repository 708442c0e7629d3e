use Rattle.std.proofs.Common.{◌≤◌, take}
use Rattle.notary_book.specs.Books.{calls_in}
use Rattle.inspect_call.specs.Known.{KnowsEarly}
use Rattle.inspect_call.proofs.both.early_in.Given as goal

-- what the payloads so far say
abbrev pub invariant-loop-payload : goal.invariant-loop-payload
invariant-loop-payload l = record {
  known : KnowsEarly l.known l.id l.early (calls_in (take l.payload-index l.payloads));
  few : l.early.batches ≤ l.payload-index;
}

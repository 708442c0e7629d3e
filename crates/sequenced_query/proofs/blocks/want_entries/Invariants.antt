use Rattle.std.proofs.Common.{◌≤◌, length}
use Rattle.sequenced_query.specs.Wanted.{IsKept, WantsBetween}
use Rattle.sequenced_query.proofs.blocks.want_entries.Given as goal

-- what was wanted is wanted, and so are the spots of the entries from here on
abbrev pub invariant-loop-count : goal.invariant-loop-count
invariant-loop-count l = record {
  within : l.count ≤ length l.entries;
  stays : IsKept l.initial.wanted.keys l.wanted.keys;
  added : WantsBetween l.left l.part l.wanted.keys l.entries l.count (length l.entries);
}

abbrev pub decreases-loop-count : goal.decreases-loop-count
decreases-loop-count l = l.count

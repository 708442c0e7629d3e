use Rattle.std.proofs.Common.{ℕ, ◌<◌, ◌≤◌, length, get_or}
use Rattle.sequenced_query.specs.declared.blocks.Entry.{Entry}
use Rattle.sequenced_query.specs.Blocks.{IsInside}
use Rattle.sequenced_query.proofs.blocks.block_with.Given as goal

-- the parts of the entries from here on are inside the span
abbrev pub invariant-loop-count : goal.invariant-loop-count
invariant-loop-count l = record {
  within : l.count ≤ length l.entries;
  own : IsInside l.fn.part l.block;
  others : (j : ℕ) (d : Entry) → l.count ≤ j → j < length l.entries → IsInside (get_or l.entries j d).spot.part l.block;
}

abbrev pub decreases-loop-count : goal.decreases-loop-count
decreases-loop-count l = l.count

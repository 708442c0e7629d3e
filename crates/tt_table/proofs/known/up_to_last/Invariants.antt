use Rattle.std.proofs.Common.{◌≤◌, length, drop}
use Rattle.tt_table.specs.Known.{NoneOfKey}
use Rattle.tt_table.proofs.known.up_to_last.Given as goal

-- none from here on is of the key
abbrev pub invariant-loop-last : goal.invariant-loop-last
invariant-loop-last l = record { within : l.last ≤ length l.pending; none : NoneOfKey l.name l.key (drop l.last l.pending) }

abbrev pub decreases-loop-last : goal.decreases-loop-last
decreases-loop-last l = l.last

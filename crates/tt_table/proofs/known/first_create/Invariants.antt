use Rattle.std.proofs.Common.{◌-◌, length, take}
use Rattle.tt_table.specs.Known.{NoneCreates}
use Rattle.tt_table.proofs.known.first_create.Given as goal

-- none so far creates the table
abbrev pub invariant-loop-first : goal.invariant-loop-first
invariant-loop-first l = NoneCreates l.name (take l.first l.pending)

abbrev pub decreases-loop-first : goal.decreases-loop-first
decreases-loop-first l = length l.pending - l.first

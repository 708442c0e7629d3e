use Rattle.std.proofs.Common.{ℕ, ◌<◌, slice_get}
use Rattle.sequenced_query.specs.Wanted.{IsWanted}
use Rattle.sequenced_query.proofs.meeting.wanted_by.Given as goal

-- the versions so far are wanted
abbrev pub invariant-loop-left : goal.invariant-loop-left
invariant-loop-left l = (n : ℕ) → n < l.left → IsWanted l.column l.span l.listing l.wanted.keys n (slice_get l.versions n)

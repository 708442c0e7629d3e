use Rattle.std.proofs.Common.{ℕ, ◌<◌, slice_get}
use Rattle.sequenced_query.specs.Spots.{HasSpot}
use Rattle.sequenced_query.proofs.Spotted.{Stays}
use Rattle.sequenced_query.proofs.spots.add_key.Given as goal

-- what was there is there, and so are the spots of the versions so far
abbrev pub invariant-loop-place : goal.invariant-loop-place
invariant-loop-place l = record {
  stays : Stays l.initial.spots.items l.spots.items;
  added : (n : ℕ) → n < l.place → HasSpot l.span l.spots.items l.key n (slice_get l.versions n);
}

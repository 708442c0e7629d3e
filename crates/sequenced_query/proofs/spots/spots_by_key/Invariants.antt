use Rattle.std.proofs.Common.{ℕ, ◌<◌, map}
use Rattle.sequenced_query.specs.Spots.{HasSpot, version_at}
use Rattle.sequenced_query.proofs.spots.spots_by_key.Given as goal

-- the spots of the keys so far are there
abbrev pub invariant-loop-key : goal.invariant-loop-key
invariant-loop-key l = (k n : ℕ) → k < l.key → HasSpot l.span l.spots.items k n (version_at (map (λ r. r.now) l.keys) k n)

use Rattle.std.proofs.Common.{map, take}
use Rattle.std.specs.List.{AllByRecursion}
use Rattle.sequenced_query.specs.Listing.{IsListed}
use Rattle.sequenced_query.proofs.listing.Listing.of_spots.Given as goal

-- the spots so far are listed
abbrev pub invariant-loop-spot : goal.invariant-loop-spot
invariant-loop-spot l = AllByRecursion (IsListed l.column (map (λ k. k.now) l.keys) l.listing) (take l.spot-index l.spots)

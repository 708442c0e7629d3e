use Rattle.std.proofs.Common.{map, take}
use Rattle.sequenced_query.specs.declared.spots.Spot.{Spot}
use Rattle.sequenced_query.specs.Listing.{IsListed}
use Rattle.sequenced_query.proofs.Noting.{each_next, listed_later}
use Rattle.sequenced_query.proofs.listing.Listing.of_spots.Goals as goal

-- what stands for a spot behind the last one
abbrev no_spot : Spot
no_spot = record { part = record { from = 0; to = 0 }; key = 0; version = 0 }

pub loop-spot-preserved : goal.loop-spot-preserved
loop-spot-preserved c =
    let keys = map (λ k. k.now) c.args.keys.now in
    each_next (IsListed c.args.column keys c.note_spot.new.self) c.args.spots.now c.loop-spot.spot-index no_spot c.loop-spot-test.true
    (listed_later c.args.column keys c.loop-spot.listing c.note_spot.new.self c.in_ok-note_spot.ensures.grows (take c.loop-spot.spot-index c.args.spots.now) c.loop-spot.invariant) c.in_ok-note_spot.ensures.listed

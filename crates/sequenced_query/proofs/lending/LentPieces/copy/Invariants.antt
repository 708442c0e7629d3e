use Rattle.std.proofs.Common.{◌≡◌, take}
use Rattle.sequenced_query.proofs.lending.LentPieces.copy.Given as goal

-- the pieces so far
abbrev pub invariant-loop-piece : goal.invariant-loop-piece
invariant-loop-piece l = l.copied.items ≡ take l.piece-index l.self

use Rattle.std.proofs.Common.{◌≡◌, ◌++◌, drop}
use Rattle.std.specs.List.{flat_map}
use Rattle.statement_core.specs.Replies.{piece_line}
use Rattle.statement_core.proofs.reply.put_pieces.Given as goal

abbrev pub invariant-loop-piece : goal.invariant-loop-piece
invariant-loop-piece l = l.out.items ++ flat_map piece_line (drop l.piece-index l.pieces) ≡ l.fn.out.items ++ flat_map piece_line l.pieces

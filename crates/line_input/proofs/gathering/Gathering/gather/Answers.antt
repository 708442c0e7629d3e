use Rattle.std.proofs.Common.{◌+◌, take, arith}
use Rattle.line_input.proofs.Cuts.{feedless_before, feedless_all, feedless_joined, cut_ahead, length_range}
use Rattle.line_input.proofs.gathering.Gathering.gather.Goals as goal

pub invariant_of-self-in-Some-2-clause-feedless : goal.invariant_of-self-in-Some-2-clause-feedless
invariant_of-self-in-Some-2-clause-feedless c =
    let g = c.args.self.now in
    let rest = c.rest-rest.result.now in
    feedless_joined g.line.items (take c.in-Some.at rest) _ c.in_ok-extend_from_slice-in-Some.ensures.items g.feedless (feedless_before rest c.in-Some.at c.in-Some.ensures.0.before)

pub invariant_of-self-in-None-2-clause-feedless : goal.invariant_of-self-in-None-2-clause-feedless
invariant_of-self-in-None-2-clause-feedless c =
    let g = c.args.self.now in
    let rest = c.rest-rest.result.now in
    feedless_joined g.line.items rest _ c.in_ok-extend_from_slice-in-None.ensures.items g.feedless (feedless_all rest c.in-None.ensures)

pub returns-in_ok-extend_from_slice-in-Some-clause-value :
    goal.returns-in_ok-extend_from_slice-in-Some-clause-value
returns-in_ok-extend_from_slice-in-Some-clause-value c =
    let g = c.args.self.now in
    let piece = g.piece in
    let at = c.in-Some.at in
    let first = c.in-Some.ensures in
    record {
      held = cut_ahead g.line.items _ piece.bytes.items c.rest-rest.result.now piece.from piece.end at c.rest-rest.ensures.value first.0.high first.1 c.in_ok-extend_from_slice-in-Some.ensures.items;
      less = omega (arith, length_range piece.bytes.items (piece.from + (at + 1)) piece.end, piece.small);
    }

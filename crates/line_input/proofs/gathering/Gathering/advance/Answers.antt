use Rattle.std.proofs.Common.{◌≡◌, ℕ, length, ap, sym, ◌∙◌}
use Rattle.std.specs.Prelude.{◌==◌}
use Rattle.line_input.proofs.Going.{going_moved, held_used, moves_line, moves_end}
use Rattle.line_input.proofs.gathering.Gathering.advance.Goals as goal

pub returns-then-not-branch-2-clause-moves : goal.returns-then-not-branch-2-clause-moves
returns-then-not-branch-2-clause-moves g c =
    let S = g.I.Source.state in
    let gathered = rw c.if-not-branch.true at c.in_ok-gather.ensures.value in
    let takes = rw c.if-not-branch-2.true at c.in_ok-take_piece.ensures.value in
    let new = c.take_piece.new.self in
    let empty : c.is_empty.result ≡ (length new.line.items == 0) = c.is_empty.ensures ∙ ap (λ (n : ℕ). n == 0) new.line.ok.0 in
    let going = going_moved c.args.self.now c.loop-self.self c.gather.new.self (S c.args.input.now) (S c.loop-self.input) c.loop-self.invariant.going (held_used c.gather.new.self gathered.1 ∙ sym gathered.0) c.gather.ensures.taken in
    moves_end c.args.self.now c.gather.new.self new (S c.args.input.now) (S c.loop-self.input) (S c.take_piece.new.input) c.is_empty.result empty going gathered.1 c.in_ok-take_piece.ensures.line takes c.in_ok-take_piece.ensures.frame c.requires.before_end

pub returns-clause-moves : goal.returns-clause-moves
returns-clause-moves g c =
    let S = g.I.Source.state in
    let line = rw c.if-not-branch.false at c.in_ok-gather.ensures.value in
    moves_line c.args.self.now c.loop-self.self c.gather.new.self (S c.args.input.now) (S c.loop-self.input) c.loop-self.invariant.going line c.gather.ensures.taken c.requires.before_end (c.gather.ensures.is_ended ∙ c.loop-self.invariant.before_end)

use Rattle.std.proofs.Common.{◌≡◌, ◌-◌, false}
use Rattle.line_input.specs.Limits.{input_limit}
use Rattle.line_input.proofs.Going.{IsGoing}
use Rattle.line_input.proofs.gathering.Gathering.advance.Given as goal

abbrev pub invariant-loop-self : goal.invariant-loop-self
invariant-loop-self g l = record {
  going : IsGoing l.initial.self l.self (g.I.Source.state l.initial.input) (g.I.Source.state l.input);
  before_end : l.self.is_ended ≡ false;
  counted : (g.I.Source.state l.input).faults ≡ (g.I.Source.state l.initial.input).faults;
}

abbrev pub decreases-loop-self : goal.decreases-loop-self
decreases-loop-self g l = input_limit - l.self.taken

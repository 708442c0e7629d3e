use Rattle.std.proofs.Common.{◌-◌, ◌+◌, length}
use Rattle.notary_book.specs.Books.{book_limits}
use Rattle.line_input.specs.Limits.{input_limit}
use Rattle.timeline_model.specs.Scene.{nothing_yet}
use Rattle.drill_core.proofs.Lines.{IsDrilling}
use Rattle.drill_core.proofs.run.drill.Given as goal

abbrev pub invariant-lines : goal.invariant-lines
invariant-lines g l = IsDrilling (nothing_yet book_limits) (g.I.Source.state l.initial.input) (g.I.Source.state l.input) l.reader (g.O.Sink.state l.initial.out) (g.O.Sink.state l.out) l.drill l.refused

abbrev pub decreases-lines : goal.decreases-lines
decreases-lines g l = input_limit + length l.reader.pending - l.reader.taken

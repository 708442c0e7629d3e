-- The answers to the goals of the function drill_core::machine::Drill::calls_before_filing.
use Rattle.drill_core.proofs.machine.Drill.calls_before_filing.Goals as goal
use Rattle.drill_core.proofs.Ahead.{none_before}

pub returns-then-not-is_notarization-clause-value : goal.returns-then-not-is_notarization-clause-value
returns-then-not-is_notarization-clause-value c = λ t at. none_before t t.id c.args.line.now (λ e. let yes = c.is_notarization.ensures.value.1 e in let no = c.if-not-is_notarization.true in cc)

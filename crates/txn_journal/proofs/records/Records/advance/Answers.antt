use Rattle.std.proofs.Common.{ap, sym, ◌∙◌}
use Rattle.disk_words.proofs.Frame.{goes_on_same}
use Rattle.txn_journal.specs.Reading.{Reading}
use Rattle.txn_journal.proofs.Steps.{told_next, told_closed, told_filled}
use Rattle.txn_journal.proofs.records.Records.advance.Goals as goal

pub returns-then-step-clause-value : goal.returns-then-step-clause-value
returns-then-step-clause-value g c = told_next (g.D.Disk.state c.args.disk.now).reads g.S.Shape.shape c.args.self.now c.step.new.self c.if-step.ensures.steps

pub returns-then-step-clause-frame : goal.returns-then-step-clause-frame
returns-then-step-clause-frame g c = goes_on_same _

pub returns-then-is_at_closed_gate-clause-value : goal.returns-then-is_at_closed_gate-clause-value
returns-then-is_at_closed_gate-clause-value g c =
    told_closed (g.D.Disk.state c.args.disk.now).reads g.S.Shape.shape c.args.self.now c.step.new.self c.if-step.ensures.steps.1 (sym c.is_at_closed_gate.ensures.value ∙ c.if-is_at_closed_gate.true)

pub returns-then-is_at_closed_gate-clause-frame : goal.returns-then-is_at_closed_gate-clause-frame
returns-then-is_at_closed_gate-clause-frame g c = goes_on_same _

pub returns-clause-value : goal.returns-clause-value
returns-clause-value g c =
    told_filled (g.D.Disk.state c.args.disk.now).reads g.S.Shape.shape c.args.self.now c.refill.new.self c.step-found.new.self c.step-found.result (c.refill.ensures.place ∙ c.if-step.ensures.moves) (c.refill.ensures.limit ∙ ap (λ (r : Reading). r.limit) c.if-step.ensures.steps.1) c.in_ok-refill.ensures.filled c.refill.ensures.seen c.step-found.ensures.steps

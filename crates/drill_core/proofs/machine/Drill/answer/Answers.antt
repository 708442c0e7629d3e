use Rattle.stmt_text.specs.Lines.{answer}
use Rattle.drill_core.proofs.Ready.{ok_map}
use Rattle.drill_core.proofs.Coming.{answered_as}
use Rattle.drill_core.proofs.machine.Drill.answer.Goals as goal

pub returns : goal.returns
returns c = record {
  value = λ t at. ok_map c.answer_to.result _ _ (c.answer_to.ensures.value t at)
      (λ answered a. answered_as c.parse_line-reading.result (answer c.args.line.now) t answered c.args.self.now c.answer_to.new.self c.parse_line-reading.ensures.value a);
}

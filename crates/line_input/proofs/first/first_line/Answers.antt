use Rattle.line_input.proofs.FirstLine.{lines_cut, lines_whole}
use Rattle.line_input.proofs.first.first_line.Goals as goal

pub returns-in-Some-clause-value : goal.returns-in-Some-clause-value
returns-in-Some-clause-value c = lines_cut c.args.text.now c.in-Some.at c.in-Some.ensures.0.high c.in-Some.ensures.1 c.in-Some.ensures.0.before

pub returns-in-None-clause-value : goal.returns-in-None-clause-value
returns-in-None-clause-value c = lines_whole c.args.text.now c.requires.some c.in-None.ensures

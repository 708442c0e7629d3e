use Rattle.line_input.proofs.Splits.{is_split, lines_only, rest_only}
use Rattle.line_input.proofs.laws.lines_are_the_only_ones.Goals as goal

pub returns : goal.returns
returns c = record { split = is_split; lines = lines_only; rest = rest_only }

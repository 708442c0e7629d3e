use Rattle.std.proofs.Common.{◌-◌, arith}
use Rattle.std.proofs.lemmas.Nat.{and_le_r}
use Rattle.sequenced_query.proofs.blocks.block_start.Goals as goal

pub returns-clause-before : goal.returns-clause-before
returns-clause-before c = omega (arith, and_le_r c.args.count (c.args.count - 1), c.requires)

use Rattle.std.proofs.Common.{sym, ap, ◌∙◌}
use Rattle.a3d_forensics.specs.declared.chains.Chains.{Chains}
use Rattle.a3d_forensics.specs.Chains.{has_of}
use Rattle.a3d_forensics.proofs.Has.{by_chains, by_tree}
use Rattle.a3d_forensics.proofs.range.are_among.Goals as goal

pub returns-in-Tiles : goal.returns-in-Tiles
returns-in-Tiles c = λ l tile is. by_chains l tile c.args.algs is ∙ ap (λ (chains : Chains). has_of chains l tile) (sym c.in-Tiles.is)

pub returns-in-Tree : goal.returns-in-Tree
returns-in-Tree c = λ l tile is. by_tree l tile c.args.algs is ∙ ap (λ (chains : Chains). has_of chains l tile) (sym c.in-Tree.is)

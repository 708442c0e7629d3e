use Rattle.a3d_tree.proofs.Steps.{all_left}
use Rattle.a3d_tree.proofs.roots.Goals as goal

pub returns : goal.returns
returns c = record { value = all_left c.args.granules }

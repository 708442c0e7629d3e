use Rattle.a3d_forensics.proofs.EraTrees.{covers}
use Rattle.a3d_forensics.proofs.laws.trees_cover_range.Goals as goal

pub returns : goal.returns
returns c = covers

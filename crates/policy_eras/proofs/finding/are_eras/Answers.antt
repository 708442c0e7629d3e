use Rattle.std.proofs.lemmas.Slice.Eq.{slice_eq-Decides}
use Rattle.policy_eras.proofs.Reaching.{one_era}
use Rattle.policy_eras.proofs.finding.are_eras.Goals as goal

pub returns : goal.returns
returns c = slice_eq-Decides one_era c.args.xs.now c.args.ys.now c.eq.result c.eq.ensures

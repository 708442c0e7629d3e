use Rattle.std.proofs.Common.{◌∙◌}
use Rattle.history_model.proofs.Moments.{moment_read}
use Rattle.history_model.proofs.spelled.moment_of.Goals as goal

pub returns : goal.returns
returns c = record { value = λ item spells. c.read_moment.ensures.value ∙ moment_read item c.args.payload.now spells }

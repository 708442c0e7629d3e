use Rattle.history_model.proofs.HeaderSpelled.{header_is_spelled}
use Rattle.history_model.proofs.laws.header_is_spelled.Goals as goal

pub returns : goal.returns
returns c = header_is_spelled

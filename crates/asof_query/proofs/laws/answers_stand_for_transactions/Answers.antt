use Rattle.asof_query.proofs.Telling.{answers_stand}
use Rattle.asof_query.proofs.laws.answers_stand_for_transactions.Goals as goal

pub returns : goal.returns
returns c = record { value = λ all txns are stands. answers_stand all txns are stands }

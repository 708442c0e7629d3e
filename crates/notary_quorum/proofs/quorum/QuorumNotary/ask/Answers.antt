use Rattle.std.proofs.Common.{refl, sym, ◌∙◌}
use Rattle.notary_quorum.proofs.Wanting.{answer_wanting}
use Rattle.notary_quorum.proofs.quorum.QuorumNotary.ask.Goals as goal

pub returns-clause-memory : goal.returns-clause-memory
returns-clause-memory g c is = c.call.ensures.memory refl (answer_wanting c.call.result (sym c.to_answer.ensures.value ∙ is))

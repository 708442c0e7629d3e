use Rattle.std.proofs.Common.{refl, sym, ◌∙◌}
use Rattle.notary_quorum.proofs.Wanting.{count_wanting}
use Rattle.notary_quorum.proofs.quorum.QuorumNotary.count.Goals as goal

pub returns-clause-memory : goal.returns-clause-memory
returns-clause-memory g c is = c.call.ensures.memory refl (count_wanting c.call.result (sym c.to_count.ensures.value ∙ is))

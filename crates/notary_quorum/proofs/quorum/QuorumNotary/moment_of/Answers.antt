use Rattle.std.proofs.Common.{refl, sym, ◌∙◌}
use Rattle.notary_quorum.proofs.Wanting.{moment_wanting}
use Rattle.notary_quorum.proofs.quorum.QuorumNotary.moment_of.Goals as goal

pub returns-clause-memory : goal.returns-clause-memory
returns-clause-memory g c is = c.call.ensures.memory refl (moment_wanting c.call.result (sym c.to_moment.ensures.value ∙ is))

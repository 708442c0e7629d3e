use Rattle.std.proofs.Common.{refl, sym, ◌∙◌}
use Rattle.notary_quorum.proofs.Wanting.{mark_wanting}
use Rattle.notary_quorum.proofs.quorum.QuorumNotary.mark_at.Goals as goal

pub returns-clause-memory : goal.returns-clause-memory
returns-clause-memory g c is = c.call.ensures.memory refl (mark_wanting c.call.result (sym c.to_mark.ensures.value ∙ is))

use Rattle.std.proofs.Common.{sym}
use Rattle.std.proofs.lemmas.Result.{on_ok_weaker}
use Rattle.validator.proofs.Closed.{none_closed}
use Rattle.audit_steps.proofs.KeptLinks.{ended_behind}
use Rattle.audit_steps.proofs.linking.end_tiles.Goals as goal

pub returns-then-tiles-clause-ended : goal.returns-then-tiles-clause-ended
returns-then-tiles-clause-ended c = on_ok_weaker c.close_to.result (λ closed. ended_behind c.args.chains.now c.close_to.new.self c.args.tiles c.args.end c.requires.end closed) c.close_to.ensures.value

pub returns-then-tiles-clause-value : goal.returns-then-tiles-clause-value
returns-then-tiles-clause-value c = on_ok_weaker c.close_to.result (λ closed. (c.args.end, closed)) c.close_to.ensures.value

pub returns-else-tiles-clause-value : goal.returns-else-tiles-clause-value
returns-else-tiles-clause-value c = (0, sym (none_closed c.args.chains.now))

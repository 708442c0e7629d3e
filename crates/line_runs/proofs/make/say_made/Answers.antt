use Rattle.line_runs.specs.declared.status.Status.TheVariants as statuses
use Rattle.line_runs.proofs.Seeing.{said_counted, ends_other}
use Rattle.line_runs.proofs.make.say_made.Goals as goal

pub returns-in-Ok-clause-counted : goal.returns-in-Ok-clause-counted
returns-in-Ok-clause-counted g c = said_counted c.args.runner.now.refused _ c.say.result (g.O.Sink.state c.args.out.now) (g.O.Sink.state c.say.new.out) c.ending_by.ensures.value c.say.ensures.said

pub returns-in-Err-clause-counted : goal.returns-in-Err-clause-counted
returns-in-Err-clause-counted g c = ends_other statuses.NoMemory c.args.runner.now.refused (λ e. cc) (λ e. cc)

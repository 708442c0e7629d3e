use Rattle.std.proofs.Common.{Option, ap, ◌∙◌}
use Rattle.book_inspect.specs.declared.copies.Lists.{Lists}
use Rattle.book_inspect.specs.Copies.{or_other}
use Rattle.book_inspect.proofs.copies.other_for.Goals as goal

pub returns-in-Some : goal.returns-in-Some
returns-in-Some c = record { value = ap (λ (o : Option Lists). or_other o c.args.all.now c.args.own.now) c.in-Some.ensures.value }

pub returns-in-None : goal.returns-in-None
returns-in-None c = record { value = c.first_other.ensures.value ∙ ap (λ (o : Option Lists). or_other o c.args.all.now c.args.own.now) c.in-None.ensures.value }

use Rattle.std.proofs.Common.{sym, ◌∙◌, arith}
use Rattle.evidence_file.proofs.Steps.{no_moment, moment_is}
use Rattle.evidence_file.proofs.lists.spelled_moment.Goals as goal

pub returns-then-not-is_item : goal.returns-then-not-is_item
returns-then-not-is_item c = record { value = sym (no_moment c.args.bytes.now (sym c.is_item.ensures.value ∙ c.if-not-is_item.true)) }

pub returns : goal.returns
returns c = record { value = moment_is c.args.bytes.now c.moment_of.result (λ i. omega (arith, c.type_inv.bytes i)) (sym c.is_item.ensures.value ∙ c.if-not-is_item.false) c.moment_of.ensures.value }

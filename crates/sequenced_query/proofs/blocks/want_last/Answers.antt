use Rattle.std.proofs.Common.{ℕ, sym, subst}
use Rattle.sequenced_query.specs.Wanted.{WantsBetween}
use Rattle.sequenced_query.proofs.Blocked.{left_out}
use Rattle.sequenced_query.proofs.blocks.want_last.Goals as goal

pub returns-then-not-meets-clause-added : goal.returns-then-not-meets-clause-added
returns-then-not-meets-clause-added c =
    subst (λ (n : ℕ). WantsBetween c.args.left c.args.part c.args.wanted.now.keys c.args.entries.now n c.args.count) (sym c.block_start.ensures.value)
    (left_out c.args.entries.now c.requires.spans c.args.count _ c.requires.some c.requires.within c.args.left c.args.part c.args.wanted.now.keys (sym c.if-not-meets.ensures.value))

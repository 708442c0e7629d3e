use Rattle.std.proofs.Common.{◌+◌, length, take, sym, ◌∙◌, arith}
use Rattle.store_inspect.specs.Front.{may_begin, wrong_byte}
use Rattle.store_inspect.proofs.Counting.{first_init, fails_at, passes_at, none_fails}
use Rattle.store_inspect.proofs.front.wrong_byte.Goals as goal

pub loop-i-init : goal.loop-i-init
loop-i-init c = let front = c.args.front.now in first_init (λ i. may_begin (take (i + 1) front)) (length front)

pub returns-then-not-may_begin : goal.returns-then-not-may_begin
returns-then-not-may_begin c =
    let front = c.args.front.now in
    record { value = fails_at (λ i. may_begin (take (i + 1) front)) (length front) c.loop-i.i (wrong_byte front) c.loop-i.invariant c.loop-i-test.true (sym c.may_begin.ensures.value ∙ c.if-not-may_begin.true) }

pub loop-i-preserved : goal.loop-i-preserved
loop-i-preserved c =
    let front = c.args.front.now in
    passes_at (λ i. may_begin (take (i + 1) front)) (length front) c.loop-i.i (wrong_byte front) c.loop-i.invariant c.loop-i-test.true (sym c.may_begin.ensures.value ∙ c.if-not-may_begin.false)

pub returns : goal.returns
returns c =
    let front = c.args.front.now in
    record { value = none_fails (λ i. may_begin (take (i + 1) front)) (length front) c.loop-i.i (wrong_byte front) c.loop-i.invariant (omega arith) }

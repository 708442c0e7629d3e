use Rattle.std.proofs.Common.{◌≡◌, ◌+◌, ◌<◌, ℕ, suc, length, take, sym, subst, arith}
use Rattle.tuple_bytes.specs.declared.value.Value.TheVariants.{Null}
use Rattle.tt_table.specs.Known.{NoneCreates}
use Rattle.tt_table.proofs.Counting.{none_further}
use Rattle.tt_table.proofs.known.first_create.Goals as goal

pub loop-first-preserved : goal.loop-first-preserved
loop-first-preserved c =
    let name = c.args.name.now in
    let ops = c.args.pending.now in
    let behind : suc c.loop-first.first ≡ c.loop-first.first + 1 = omega arith in
    let inside : c.loop-first.first < length c.args.pending.now = omega (arith, c.loop-first-test.true) in
    subst (λ (n : ℕ). NoneCreates name (take n ops)) behind
    (none_further name Null ops c.loop-first.first c.index-pending-first.result inside c.index-pending-first.is (sym c.if-not-creates.ensures.value) c.loop-first.invariant)

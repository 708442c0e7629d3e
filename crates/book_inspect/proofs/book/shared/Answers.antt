use Rattle.std.proofs.Common.{nat_eq, drop, length-drop, arith}
use Rattle.std.proofs.lemmas.List.Sums.{common_prefix_len-le}
use Rattle.book_inspect.proofs.book.shared.Goals as goal

pub returns : goal.returns
returns c =
    let xs = c.args.xs.now in
    let ys = c.args.ys.now in
    let i = c.loop-i.i in
    let left = common_prefix_len-le nat_eq (drop i xs) (drop i ys) in
    let first = left.0 in
    let second = left.1 in
    record { value = omega (arith, first, second, length-drop i xs, length-drop i ys, c.loop-i.invariant, c.loop-i-test.false, c.loop-i.auto.i-end, c.min-most.ensures) }

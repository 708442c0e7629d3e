use Rattle.std.proofs.Common.{◌≡◌, drop}
use Rattle.book_inspect.specs.Copies.{same_list}
use Rattle.book_inspect.proofs.copies.same_list.Given as goal

-- what is left decides
abbrev pub invariant-loop-i : goal.invariant-loop-i
invariant-loop-i l = same_list l.xs l.ys ≡ same_list (drop l.i l.xs) (drop l.i l.ys)

use Rattle.std.proofs.Common.{◌≡◌, ◌+◌, nat_eq, drop}
use Rattle.std.specs.List.{common_prefix_len}
use Rattle.book_inspect.proofs.book.shared.Given as goal

-- so many are the same, and what is left decides
abbrev pub invariant-loop-i : goal.invariant-loop-i
invariant-loop-i l = common_prefix_len nat_eq l.xs l.ys ≡ l.i + common_prefix_len nat_eq (drop l.i l.xs) (drop l.i l.ys)

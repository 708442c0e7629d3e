use Rattle.std.proofs.Common.{◌+◌, length, take}
use Rattle.store_inspect.specs.Front.{may_begin, wrong_byte}
use Rattle.store_inspect.proofs.Counting.{IsFirst}
use Rattle.store_inspect.proofs.front.wrong_byte.Given as goal

-- none of those so far fails
abbrev pub invariant-loop-i : goal.invariant-loop-i
invariant-loop-i l = IsFirst (λ i. may_begin (take (i + 1) l.front)) (length l.front) l.i (wrong_byte l.front)

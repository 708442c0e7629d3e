use Rattle.std.proofs.Common.{◌≡◌, ◌+◌, length}
use Rattle.worked_examples.proofs.quorums.quorum.Given as goal

abbrev pub invariant-books : goal.invariant-books
invariant-books l = length l.members.items + length l.books.items ≡ length l.fn.books.items

abbrev pub decreases-books : goal.decreases-books
decreases-books l = length l.books.items

use Rattle.std.proofs.Common.{◌≤◌, length}
use Rattle.dragoon_cli.proofs.names.books_of.Given as goal

abbrev pub invariant-loop-path : goal.invariant-loop-path
invariant-loop-path l = length l.books.items ≤ 9

use Rattle.std.specs.List.{AllZip}
use Rattle.inspect_call.specs.Looked.{LooksAt}
use Rattle.inspect_call.proofs.looking.see_books.Given as goal

-- each of those so far
abbrev pub invariant-loop-read : goal.invariant-loop-read
invariant-loop-read l = AllZip (LooksAt l.id l.second) l.yielded l.all.items

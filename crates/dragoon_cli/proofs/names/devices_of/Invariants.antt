use Rattle.std.proofs.Common.{◌≡◌, length}
use Rattle.dragoon_cli.proofs.names.devices_of.Given as goal

abbrev pub invariant-loop-book : goal.invariant-loop-book
invariant-loop-book g l = length l.disks.items ≡ l.book-index

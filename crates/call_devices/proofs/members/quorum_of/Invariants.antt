use Rattle.std.proofs.Common.{◌≡◌, ◌+◌, length}
use Rattle.call_devices.proofs.members.quorum_of.Given as goal

abbrev pub invariant-disks : goal.invariant-disks
invariant-disks g l = length l.members.items + length l.disks.items ≡ length l.fn.disks.items

abbrev pub decreases-disks : goal.decreases-disks
decreases-disks g l = length l.disks.items

use Rattle.std.proofs.Common.{◌-◌, vec_len}
use Rattle.disk_model.proofs.ReadOn.{HasRead}
use Rattle.disk_model.proofs.reading.read_whole.Given as goal

abbrev pub invariant-loop-piece : goal.invariant-loop-piece
invariant-loop-piece g l = HasRead l.length l.all.items (g.D.Disk.state l.fn.disk) (g.D.Disk.state l.disk)

abbrev pub decreases-loop-piece : goal.decreases-loop-piece
decreases-loop-piece g l = l.length - vec_len l.all

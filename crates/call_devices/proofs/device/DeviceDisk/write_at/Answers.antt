use Rattle.call_devices.proofs.device.DeviceDisk.write_at.Goals as goal

pub returns-in-Memory-clause-change : goal.returns-in-Memory-clause-change
returns-in-Memory-clause-change g c = rw c.in-Memory.is c.write_at.ensures.change

use Rattle.call_devices.proofs.device.DeviceDisk.cut.Goals as goal

pub returns-in-Memory-clause-change : goal.returns-in-Memory-clause-change
returns-in-Memory-clause-change g c = rw c.in-Memory.is c.cut.ensures.change

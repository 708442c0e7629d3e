use Rattle.std.proofs.Common.{◌+◌, refl}
use Rattle.disk_words.proofs.Frame.{goes_on_same}
use Rattle.audit_steps.proofs.Reading.{told_steps, told_piece}
use Rattle.audit_steps.proofs.piece.read_piece.Goals as goal

pub returns-then-auditing-clause-frame : goal.returns-then-auditing-clause-frame
returns-then-auditing-clause-frame g c = goes_on_same (g.D.Disk.state c.args.disk.now)

pub returns-in_err-chains-clause-steps : goal.returns-in_err-chains-clause-steps
returns-in_err-chains-clause-steps g c = told_steps c.args.auditing c.in_ok-part.part (g.D.Disk.state c.args.disk.now).reads c.args.steps.now c.take_items.new.steps c.take_items.ensures.steps c.in_ok-part.ensures.value

pub returns-clause-steps : goal.returns-clause-steps
returns-clause-steps g c = told_steps c.args.auditing c.in_ok-part.part (g.D.Disk.state c.args.disk.now).reads c.args.steps.now c.take_items.new.steps c.take_items.ensures.steps c.in_ok-part.ensures.value

pub returns-clause-value : goal.returns-clause-value
returns-clause-value g c = told_piece c.args.auditing c.in_ok-part.part (c.args.auditing.read + 256) c.in_ok-chains.chains refl c.in_ok-chains.ensures.value (g.D.Disk.state c.args.disk.now).reads c.in_ok-part.ensures.value

pub returns-clause-fits : goal.returns-clause-fits
returns-clause-fits g c = record { header = c.requires.fits.header; chains = c.in_ok-chains.ensures.under c.args.auditing.header c.requires.fits.chains }

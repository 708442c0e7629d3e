use Rattle.std.proofs.lemmas.Bool.{false≢true}
use Rattle.notary_link.proofs.Frame.{goes_on_same}
use Rattle.a3d_forensics.proofs.asking.differs.Goals as goal

pub returns-in-None-clause-value : goal.returns-in-None-clause-value
returns-in-None-clause-value g c =
    absurd (false≢true (c.in-None.ensures.planned.1 (c.requires.tree.planned c.args.level c.args.index c.requires.over)))

pub returns-in-None-clause-frame : goal.returns-in-None-clause-frame
returns-in-None-clause-frame g c = goes_on_same _

use Rattle.std.proofs.Common.{sym, ◌∙◌}
use Rattle.digest_model.specs.Layout.{first_era}
use Rattle.evidence_file.specs.Evidence.{are_next}
use Rattle.evidence_file.proofs.Steps.{eras_go_on, eras_stop, eras_end}
use Rattle.evidence_file.proofs.consistent.are_next.Goals as goal

pub returns-then-not-takes : goal.returns-then-not-takes
returns-then-not-takes c = record { value = eras_stop c.loop-era.kept c.args.eras.now c.loop-era.era-index (record { tile = 0; granule = 0; k = 0; algs = 0 }) (are_next (first_era c.args.header.now) c.args.eras.now) c.loop-era-test.true (sym c.takes.ensures.value ∙ c.if-not-takes.true) c.loop-era.invariant }

pub loop-era-preserved : goal.loop-era-preserved
loop-era-preserved c = rw c.takes.ensures.taken (eras_go_on c.loop-era.kept c.args.eras.now c.loop-era.era-index (record { tile = 0; granule = 0; k = 0; algs = 0 }) (are_next (first_era c.args.header.now) c.args.eras.now) c.loop-era-test.true (sym c.takes.ensures.value ∙ c.if-not-takes.false) c.loop-era.invariant)

pub returns : goal.returns
returns c = record { value = eras_end c.loop-era.kept c.args.eras.now c.loop-era.era-index (are_next (first_era c.args.header.now) c.args.eras.now) c.loop-era-test.false c.loop-era.invariant }

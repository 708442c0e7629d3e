use Rattle.store_inspect.proofs.Fitting.{tables_step, misfits_step, unsayable_step}
use Rattle.store_inspect.proofs.operations.Operations.take_all.Goals as goal

pub loop-i-preserved : goal.loop-i-preserved
loop-i-preserved c =
    let old = c.args.self.now in
    let now = c.loop-i.self in
    let ops = c.as_slice-op-items.result.now in
    record {
      tables = tables_step c.args.place c.loop-i.i ops c.op-item.result c.loop-i-test.true c.op-item.is old.tables now.tables c.apply.new.self c.in_ok-copy.field-0 c.in_ok-copy.ensures.value c.loop-i.invariant.tables c.in_ok-apply.ensures.value;
      misfits = misfits_step c.args.place c.loop-i.i ops c.op-item.result c.loop-i-test.true c.op-item.is old.tables now.tables old.misfits.items now.misfits.items c.note.new.found.items c.fits-fits.result
          c.fits-fits.ensures.value c.loop-i.invariant.tables c.in_ok-note.ensures.value c.loop-i.invariant.misfits;
      unsayable_are = unsayable_step c.args.place c.loop-i.i ops c.op-item.result c.loop-i-test.true c.op-item.is old.unsayable.items now.unsayable.items c.note-in-loop-i.new.found.items c.is_sayable_op.result
          c.is_sayable_op.ensures.value c.in_ok-note-2.ensures.value c.loop-i.invariant.unsayable_are;
    }

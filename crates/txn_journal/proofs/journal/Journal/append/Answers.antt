use Rattle.std.proofs.Common.{◌≡◌, ◌+◌, ◌<◌, ◌∙◌, length, Ok, Err, subst, arith}
use Rattle.outside_words.specs.Told.{WhereTold}
use Rattle.disk_words.proofs.Frame.{goes_on_same}
use Rattle.txn_journal.specs.Held.{Standing}
use Rattle.txn_journal.specs.Append.{behind_gate, Appends}
use Rattle.txn_journal.proofs.Lifted.{lifted}
use Rattle.txn_journal.proofs.Added.{appends_told}
use Rattle.txn_journal.proofs.journal.Journal.append.Goals as goal

pub returns-then-self-clause-frame : goal.returns-then-self-clause-frame
returns-then-self-clause-frame g c = goes_on_same _

pub returns-then-next-WHOLE-clause-frame : goal.returns-then-next-WHOLE-clause-frame
returns-then-next-WHOLE-clause-frame g c = goes_on_same _

pub returns-in_err-record-clause-frame : goal.returns-in_err-record-clause-frame
returns-in_err-record-clause-frame g c = goes_on_same _

pub returns-in-Ok-clause-told : goal.returns-in-Ok-clause-told
returns-in-Ok-clause-told g c =
    let S = g.D.Disk.state in
    let payload = c.args.payload.now in
    let at : Standing = record { end = c.self.inside.end; gate_is_open = c.self.inside.gate_is_open; is_closed = c.self.inside.is_closed } in
    let piece : c.deref.result.now ≡ behind_gate payload = c.deref.ensures.value ∙ c.in_ok-record.ensures.value in
    let within : at.end + 5 + length payload < g.S.Shape.shape.max_file = omega (arith, g.met.S.Shape.max_file, g.met.S.Shape.whole_fits) in
    let told = rw piece at c.in-Ok.ensures.told in
    let all = appends_told g.S.Shape.is_head g.S.Shape.shape at payload g.met.S.Shape.payload_fits c.requires.fits within (Ok tt) (S c.args.disk.now) (S c.add.new.disk) (g.met.D.Disk.counts_now c.add.new.disk) (g.met.D.Disk.reads_image c.add.new.disk) told in
    subst (λ (at : Standing). WhereTold (S c.args.disk.now).reads (S c.add.new.disk).reads (Appends g.S.Shape.is_head g.S.Shape.shape at payload (Ok tt) (S c.args.disk.now) (S c.add.new.disk))) c.self.view_is all

pub returns-clause-told : goal.returns-clause-told
returns-clause-told g c =
    let S = g.D.Disk.state in
    let payload = c.args.payload.now in
    let at : Standing = record { end = c.self.inside.end; gate_is_open = c.self.inside.gate_is_open; is_closed = c.self.inside.is_closed } in
    let piece : c.deref.result.now ≡ behind_gate payload = c.deref.ensures.value ∙ c.in_ok-record.ensures.value in
    let within : at.end + 5 + length payload < g.S.Shape.shape.max_file = omega (arith, g.met.S.Shape.max_file, g.met.S.Shape.whole_fits) in
    let told = rw piece at c.in-Err.ensures.told in
    let all = appends_told g.S.Shape.is_head g.S.Shape.shape at payload g.met.S.Shape.payload_fits c.requires.fits within (Err c.in-Err.fail) (S c.args.disk.now) (S c.add.new.disk) (g.met.D.Disk.counts_now c.add.new.disk) (g.met.D.Disk.reads_image c.add.new.disk) told in
    rw c.from.ensures (subst (λ (at : Standing). WhereTold (S c.args.disk.now).reads (S c.add.new.disk).reads (Appends g.S.Shape.is_head g.S.Shape.shape at payload (lifted (Err c.in-Err.fail)) (S c.args.disk.now) (S c.add.new.disk))) c.self.view_is all)

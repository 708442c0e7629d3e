use Rattle.std.proofs.Common.{◌≡◌, sym, subst}
use Rattle.disk_words.specs.Disk.{Unchanged}
use Rattle.disk_words.proofs.Frame.{goes_on_same}
use Rattle.store_engine.proofs.Adding.{unchanged_same, record_done, record_failed, record_refused}
use Rattle.store_engine.proofs.appending.append.Goals as goal

pub returns-then-is_closed-clause-frame : goal.returns-then-is_closed-clause-frame
returns-then-is_closed-clause-frame g c = goes_on_same _

pub returns-then-is_closed-clause-told : goal.returns-then-is_closed-clause-told
returns-then-is_closed-clause-told g c = record_refused c.args.payload.now _ (g.D.Disk.state c.args.disk.now) (g.met.D.Disk.only_now c.args.disk.now)

pub returns-in-Ok-clause-told : goal.returns-in-Ok-clause-told
returns-in-Ok-clause-told g c =
    let S = g.D.Disk.state in
    record_done c.args.payload.now c.args.file.now c.args.is_closed.now (S c.args.disk.now) (S c.append.new.disk) c.in-Ok.ensures.told

pub returns-in-Err-clause-told : goal.returns-in-Err-clause-told
returns-in-Err-clause-told g c =
    let S = g.D.Disk.state in
    let old = S c.args.disk.now in
    let fail = c.in-Err.fail in
    let at = c.args.file.now in
    let same = λ (e : c.append.new.self ≡ at). subst (λ d. Unchanged old (S d)) (sym (c.in-Err.ensures.kept e)) (unchanged_same old) in
    rw c.from-fail.ensures (record_failed c.args.payload.now at c.args.is_closed.now old (S c.append.new.disk) c.append.new.self fail c.in-Err.ensures.moves same c.in-Err.ensures.told)

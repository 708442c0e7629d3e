use Rattle.std.proofs.Common.{◌≡◌, [], ◌∷◌, Err, rules}
use Rattle.disk_model.proofs.Runs.{run_stopped, run_then}
use Rattle.disk_model.specs.Gate.{gated_writes}
use Rattle.txn_journal.proofs.append.close_and_add.Goals as goal

pub returns-in_err-close_gate-clause-told : goal.returns-in_err-close_gate-clause-told
returns-in_err-close_gate-clause-told g c =
    let S = g.D.Disk.state in
    let same : c.from_residual.result ≡ Err c.in_err-close_gate.field-0.0 = search rules in
    rw same (run_stopped ((c.args.end, 0 ∷ []) ∷ []) (gated_writes c.args.end 0xA7 c.args.bytes.now) _ (S c.args.disk.now) (S c.close_gate.new.disk) c.in_err-close_gate.ensures.told)

pub returns-clause-told : goal.returns-clause-told
returns-clause-told g c =
    let S = g.D.Disk.state in
    run_then ((c.args.end, 0 ∷ []) ∷ []) (gated_writes c.args.end 0xA7 c.args.bytes.now) _ (S c.args.disk.now) (S c.close_gate.new.disk) (S c.add_behind_closed.new.disk) c.in_ok-close_gate.ensures.frame c.in_ok-close_gate.ensures.told c.add_behind_closed.ensures.told

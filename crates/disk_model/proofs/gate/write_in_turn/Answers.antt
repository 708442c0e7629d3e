use Rattle.std.proofs.Common.{[], ◌∷◌}
use Rattle.disk_model.proofs.Runs.{run_then}
use Rattle.disk_model.proofs.gate.write_in_turn.Goals as goal

pub returns-clause-told : goal.returns-clause-told
returns-clause-told g c =
    let S = g.D.Disk.state in
    let first = c.in_ok-write_durably.ensures in
    run_then ((c.args.place, c.args.piece.now) ∷ []) ((c.args.second_place, c.args.second.now) ∷ []) _ (S c.args.disk.now) (S c.write_durably.new.disk) (S c.write_durably-2.new.disk) first.frame first.told c.write_durably-2.ensures.told

use Rattle.outside_words.proofs.Told.{told_map}
use Rattle.disk_model.proofs.Gated.{shows_all_or_nothing}
use Rattle.disk_model.proofs.gate.write_gated.Goals as goal

pub returns-clause-images : goal.returns-clause-images
returns-clause-images g c =
    let S = g.D.Disk.state in
    told_map _ _ _ _ c.write_in_turn.ensures.told (shows_all_or_nothing c.args.gate c.args.open_byte c.args.piece.now c.write_in_turn.result (S c.args.disk.now) (S c.write_in_turn.new.disk))

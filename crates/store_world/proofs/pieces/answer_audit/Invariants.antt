use Rattle.store_world.proofs.pieces.answer_audit.Given as goal

abbrev pub ghosts-audit_counted : goal.ghosts-audit_counted
ghosts-audit_counted g a = record { name = a.blank.name; parts = a.blank.parts }

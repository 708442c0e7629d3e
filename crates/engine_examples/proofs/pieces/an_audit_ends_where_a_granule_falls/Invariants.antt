use Rattle.engine_examples.proofs.pieces.an_audit_ends_where_a_granule_falls.Given as goal

abbrev pub ghosts-audit_thrice : goal.ghosts-audit_thrice
ghosts-audit_thrice g a = record { name = a.blank.name; parts = a.blank.parts }

use Rattle.engine_examples.proofs.pieces.an_audit_goes_on_over_a_policy.Given as goal

abbrev pub ghosts-audit_thrice : goal.ghosts-audit_thrice
ghosts-audit_thrice g a = record { name = a.blank.name; parts = a.blank.parts }

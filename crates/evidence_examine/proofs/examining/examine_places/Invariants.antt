use Rattle.evidence_examine.proofs.examining.examine_places.Given as goal

abbrev pub ghosts-examine_lists : goal.ghosts-examine_lists
ghosts-examine_lists g a = record { name = a.blank.name; parts = a.blank.parts }

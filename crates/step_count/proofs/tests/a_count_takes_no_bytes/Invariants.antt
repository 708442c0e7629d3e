use Rattle.step_count.proofs.tests.a_count_takes_no_bytes.Given as goal

abbrev pub ghosts-count_nothing : goal.ghosts-count_nothing
ghosts-count_nothing g a = record { name = a.blank.name; parts = a.blank.parts }

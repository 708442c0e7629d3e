use Rattle.engine_examples.proofs.counts.nine_commits_take_18_steps.Given as goal

abbrev pub ghosts-count_behind : goal.ghosts-count_behind
ghosts-count_behind g a = record { name = a.blank.name; parts = a.blank.parts }

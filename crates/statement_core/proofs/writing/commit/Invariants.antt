use Rattle.statement_core.proofs.writing.commit.Given as goal

abbrev pub ghosts-commit_counted : goal.ghosts-commit_counted
ghosts-commit_counted g a = record { name = a.blank.name; parts = a.blank.parts }

use Rattle.engine_examples.proofs.stores.transactions_are_stored_behind_a_policy.Given as goal

abbrev pub ghosts-commit_counted : goal.ghosts-commit_counted
ghosts-commit_counted g a = record { name = a.blank.name; parts = a.blank.parts }

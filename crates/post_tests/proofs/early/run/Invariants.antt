use Rattle.post_tests.proofs.early.run.Given as goal

abbrev pub ghosts-run_over : goal.ghosts-run_over
ghosts-run_over g a = record { table = a.shared.now.table }

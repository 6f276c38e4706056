use Rattle.run_rows.proofs.rows.run_rows.Given as goal

abbrev pub ghosts-run_over : goal.ghosts-run_over
ghosts-run_over g a = record { table = a.shared.now.table }

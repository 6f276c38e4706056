use Rattle.run_rows.proofs.rows.run_over.Given as goal

abbrev pub ghosts-exchange : goal.ghosts-exchange
ghosts-exchange g a = record { queues = a.queues.now }

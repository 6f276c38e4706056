use Rattle.post_tests.proofs.early.run_over.Given as goal

abbrev pub ghosts-send_and_take : goal.ghosts-send_and_take
ghosts-send_and_take g a = record { queues = a.queues.now }

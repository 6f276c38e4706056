use Rattle.handing_tests.proofs.threading.hand_round.Given as goal

abbrev pub ghosts-run : goal.ghosts-run
ghosts-run g a = record { table = a.shared.now.table }

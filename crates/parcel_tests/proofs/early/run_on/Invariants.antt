use Rattle.parcel_tests.proofs.early.run_on.Given as goal

abbrev pub ghosts-run : goal.ghosts-run
ghosts-run g a = record { day = a.day }

use Rattle.heap_table.proofs.steps.look.Given as goal

abbrev pub ghosts-load_as : goal.ghosts-load_as
ghosts-load_as a = record { event = a._event }

use Rattle.heap_table.proofs.steps.raise.Given as goal

abbrev pub ghosts-raise_as : goal.ghosts-raise_as
ghosts-raise_as a = record { event = a._event }

use Rattle.heap_table.proofs.steps.stands.Given as goal

abbrev pub ghosts-find_as : goal.ghosts-find_as
ghosts-find_as a = record { event = a._event; value = a._value }

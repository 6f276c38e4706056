use Rattle.heap_table.proofs.steps.store.Given as goal

abbrev pub ghosts-store_as : goal.ghosts-store_as
ghosts-store_as a = record { event = a._event }

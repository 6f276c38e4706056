use Rattle.heap_table.proofs.handing.offer.Given as goal

abbrev pub ghosts-split_as : goal.ghosts-split_as
ghosts-split_as a = record { block = a._block }

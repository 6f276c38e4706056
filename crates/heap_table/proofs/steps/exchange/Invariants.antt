use Rattle.heap_table.proofs.steps.exchange.Given as goal

abbrev pub ghosts-exchange_as : goal.ghosts-exchange_as
ghosts-exchange_as a = record { event = a._event }

use Rattle.heap_table.proofs.steps.recall.Given as goal

abbrev pub ghosts-recall_as : goal.ghosts-recall_as
ghosts-recall_as a = record { opening = a.shared.now.key }

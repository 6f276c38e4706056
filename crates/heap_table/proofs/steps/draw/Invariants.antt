use Rattle.heap_table.proofs.steps.draw.Given as goal

abbrev pub ghosts-draw_as : goal.ghosts-draw_as
ghosts-draw_as a = record { event = a._event }

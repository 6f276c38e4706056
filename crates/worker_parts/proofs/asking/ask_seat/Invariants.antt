use Rattle.worker_parts.proofs.asking.ask_seat.Given as goal

abbrev pub ghost-work_off : goal.ghost-work_off
ghost-work_off g a = g.H.Opened.image a.seat.now

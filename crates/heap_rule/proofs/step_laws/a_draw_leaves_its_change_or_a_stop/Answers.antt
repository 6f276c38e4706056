use Rattle.heap_rule.proofs.WordsLeftLemmas.{draw_done, draw_stops, draw_cuts, draw_frees}
use Rattle.heap_rule.proofs.step_laws.a_draw_leaves_its_change_or_a_stop.Goals as goal

pub returns-clause-done : goal.returns-clause-done
returns-clause-done c shift v w ticket e going = draw_done shift v w ticket e going

pub returns-clause-stop : goal.returns-clause-stop
returns-clause-stop c shift v w ticket step e going stop = draw_stops shift v w ticket step e going stop

pub returns-clause-cut : goal.returns-clause-cut
returns-clause-cut c d v w ticket e going can = draw_cuts d v w ticket e going can

pub returns-clause-free : goal.returns-clause-free
returns-clause-free c block v w ticket e going can = draw_frees block v w ticket e going can

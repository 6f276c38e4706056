use Rattle.core_model.proofs.HeldLemmas.{firm}
use Rattle.heap_rule.proofs.ToldLemmas.{drawn_told, stop_told, load_told}
use Rattle.heap_rule.proofs.laws.a_step_tells_of_the_heap.Goals as goal

pub returns-clause-firm : goal.returns-clause-firm
returns-clause-firm c event v w found e = firm v.setup e.before.words e.before.views e.before.sound

pub returns-clause-draw : goal.returns-clause-draw
returns-clause-draw c shift v w ticket e going = drawn_told shift v w ticket e going

pub returns-clause-stop : goal.returns-clause-stop
returns-clause-stop c shift v w ticket step e going stop = stop_told shift v w ticket step e going stop

pub returns-clause-load : goal.returns-clause-load
returns-clause-load c v w word value found e shows = load_told v w word value found e shows

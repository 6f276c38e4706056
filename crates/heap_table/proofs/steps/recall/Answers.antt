use Rattle.std.proofs.Common.{sym, subst}
use Rattle.core_model.specs.View.{View}
use Rattle.heap_table.specs.AtTable.{SharedView}
use Rattle.heap_table.specs.Plays.{HasReached}
use Rattle.heap_table.proofs.TableStepLemmas.{the_view}
use Rattle.heap_table.proofs.steps.recall.Goals as goal

pub returns-clause-reached : goal.returns-clause-reached
returns-clause-reached c = let d = c.recall_as.ensures.did in
    subst (λ (v : View). HasReached c.args.shared.now.opening v) (sym (the_view c.args.seat.now.me.0 d.view d.single))
    (subst (λ (s : SharedView). HasReached s.opening d.view) c.shared.view_is d.has)

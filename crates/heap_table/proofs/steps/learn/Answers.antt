use Rattle.std.proofs.Common.{◌≡◌, get_or, sym, subst}
use Rattle.core_model.specs.View.{View}
use Rattle.heap_table.specs.Plays.{HasSoundState}
use Rattle.heap_table.proofs.TableStepLemmas.{the_view}
use Rattle.heap_table.proofs.steps.learn.Goals as goal

pub returns-clause-found : goal.returns-clause-found
returns-clause-found c = let d = c.learn_as.ensures.did in
    subst (λ (v : View). (s : HasSoundState v) × (c.learn_as.result ≡ get_or s.words c.args.word 0))
    (sym (the_view c.args.seat.now.me.0 d.view d.single)) (d.before, d.found_is)

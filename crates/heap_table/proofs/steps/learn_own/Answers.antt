use Rattle.std.proofs.Common.{ap, sym, ◌∙◌, arith}
use Rattle.core_model.specs.Memory.{table_length}
use Rattle.core_model.specs.View.{Setup}
use Rattle.heap_table.specs.SeatViews.{view_in}
use Rattle.heap_table.specs.AtTable.{SharedView}
use Rattle.heap_table.specs.Rule.{setup_for}
use Rattle.heap_table.proofs.RuleLemmas.{allowed_learn_own}
use Rattle.heap_table.proofs.TableStepLemmas.{after_learn_own}
use Rattle.heap_table.proofs.steps.learn_own.Goals as goal

pub load-requires : goal.load-requires
load-requires c =
    let shared_is = sym (ap (λ (s : SharedView). setup_for s.opening) c.shared.view_is) in
    let same = ap (λ (k : Setup). table_length k.capacity) (c.requires.at.setup ∙ shared_is) in
    let long = c.shared.invariant in
    let inside = c.requires.inside in (
      c.requires.at.table_is ∙ sym (ap (λ (s : SharedView). s.table) c.shared.view_is),
      omega (arith, inside, same, long),
      allowed_learn_own c.shared.inside.table.shared.key c.shared.inside.table.shared.table_id.slots c.args.seat.now.id c.args.seat.now.me.0
          c.args.seat.now.me.1
          (view_in c.args.seat.now.me.0) c.args.word c.requires.at.single (c.requires.at.setup ∙ shared_is) c.requires.at.has.is_seat,
    )

pub returns-clause-at : goal.returns-clause-at
returns-clause-at c = (after_learn_own c.args.shared.now c.args.seat.now.table_id c.load.new.seat.table_id c.args.word c.args.seat.now.me
    c.load.result c.load.new.seat.me c.requires.at c.load.ensures.0 c.load.ensures.2).0

pub returns-clause-learned : goal.returns-clause-learned
returns-clause-learned c = (after_learn_own c.args.shared.now c.args.seat.now.table_id c.load.new.seat.table_id c.args.word c.args.seat.now.me
    c.load.result c.load.new.seat.me c.requires.at c.load.ensures.0 c.load.ensures.2).1

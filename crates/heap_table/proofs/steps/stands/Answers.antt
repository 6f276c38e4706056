use Rattle.std.proofs.Common.{ap, sym, ◌∙◌, eqb-true}
use Rattle.std.proofs.lemmas.Bool.{eqb-false}
use Rattle.heap_table.specs.SeatViews.{view_in}
use Rattle.heap_table.specs.AtTable.{SharedView}
use Rattle.heap_table.specs.Rule.{setup_for}
use Rattle.heap_table.proofs.TableStepLemmas.{put_at, after_find, found_there, found_other}
use Rattle.heap_table.proofs.steps.stands.Goals as goal

pub find_as-requires-clause-step : goal.find_as-requires-clause-step
find_as-requires-clause-step c = let setup = c.requires.at.setup ∙ sym (ap (λ (s : SharedView). setup_for s.opening) c.shared.view_is) in (
  view_in c.args.seat.now.me.0,
  c.requires.at.single,
  setup,
  put_at c.shared.inside.table.shared.key
      (view_in c.args.seat.now.me.0) c.args.event c.args.place c.args.value setup c.requires.at.has.is_seat c.requires.put,
)

pub returns-clause-at : goal.returns-clause-at
returns-clause-at c = after_find c.args.shared.now c.args.seat.now.table_id c.find_as.new.seat.table_id c.args.event c.args.value
    c.args.seat.now.me c.find_as.result c.find_as.new.seat.me c.requires.at c.find_as.ensures.table c.find_as.ensures.did

pub returns-clause-there : goal.returns-clause-there
returns-clause-there c = λ same. found_there c.args.shared.now c.args.seat.now.table_id c.find_as.new.seat.table_id c.args.event c.args.value
    c.args.seat.now.me c.find_as.result c.find_as.new.seat.me c.requires.at c.find_as.ensures.table c.find_as.ensures.did
    (eqb-true c.find_as.result c.args.value same)

pub returns-clause-other : goal.returns-clause-other
returns-clause-other c = λ differs. found_other c.args.event c.args.value c.args.seat.now.me c.find_as.result c.find_as.new.seat.me
    (eqb-false c.find_as.result c.args.value differs) c.find_as.ensures.did

use Rattle.std.proofs.Common.{ap, sym, ◌∙◌, arith}
use Rattle.core_model.specs.Memory.{table_length}
use Rattle.core_model.specs.View.{Setup}
use Rattle.heap_table.specs.SeatViews.{view_in}
use Rattle.heap_table.specs.AtTable.{SharedView}
use Rattle.heap_table.specs.Rule.{setup_for}
use Rattle.heap_table.proofs.TableStepLemmas.{place_below, draw_at, after_did}
use Rattle.heap_table.proofs.steps.draw.Goals as goal

pub draw_as-requires-clause-inside : goal.draw_as-requires-clause-inside
draw_as-requires-clause-inside c =
    let below = place_below (view_in c.args.seat.now.me.0) c.args.event c.args.place c.requires.at.has c.requires.may c.requires.place in
    let same = ap (λ (k : Setup). table_length k.capacity) (c.requires.at.setup
    ∙ sym (ap (λ (s : SharedView). setup_for s.opening) c.shared.view_is)) in
    let long = c.shared.invariant in omega (arith, below, same, long)

pub draw_as-requires-clause-step : goal.draw_as-requires-clause-step
draw_as-requires-clause-step c = (
  view_in c.args.seat.now.me.0,
  c.requires.at.single,
  draw_at c.shared.inside.table.shared.key (view_in c.args.seat.now.me.0) c.args.event c.args.place (c.requires.at.setup
      ∙ sym (ap (λ (s : SharedView). setup_for s.opening) c.shared.view_is)) c.requires.at.has.is_seat
      c.requires.may c.requires.place c.requires.draw,
)

pub returns-clause-at : goal.returns-clause-at
returns-clause-at c = (after_did c.args.shared.now c.args.seat.now.table_id c.draw_as.new.seat.table_id c.args.event c.args.seat.now.me
    c.draw_as.result c.draw_as.new.seat.me c.requires.at c.draw_as.ensures.table c.draw_as.ensures.did).at

pub returns-clause-event : goal.returns-clause-event
returns-clause-event c = (after_did c.args.shared.now c.args.seat.now.table_id c.draw_as.new.seat.table_id c.args.event c.args.seat.now.me
    c.draw_as.result c.draw_as.new.seat.me c.requires.at c.draw_as.ensures.table c.draw_as.ensures.did).event_is

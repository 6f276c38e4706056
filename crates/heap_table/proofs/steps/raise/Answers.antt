use Rattle.std.proofs.Common.{ap, sym, ◌∙◌, arith}
use Rattle.core_model.specs.Memory.{table_length}
use Rattle.core_model.specs.View.{Setup}
use Rattle.heap_table.specs.SeatViews.{view_in}
use Rattle.heap_table.specs.AtTable.{SharedView}
use Rattle.heap_table.specs.Rule.{setup_for}
use Rattle.heap_table.proofs.TableStepLemmas.{place_below, raise_at, after_did}
use Rattle.heap_table.proofs.steps.raise.Goals as goal

pub raise_as-requires-clause-inside : goal.raise_as-requires-clause-inside
raise_as-requires-clause-inside c =
    let below = place_below (view_in c.args.seat.now.me.0) c.args.event c.args.place c.requires.at.has c.requires.may c.requires.place in
    let same = ap (λ (k : Setup). table_length k.capacity) (c.requires.at.setup
    ∙ sym (ap (λ (s : SharedView). setup_for s.opening) c.shared.view_is)) in
    let long = c.shared.invariant in omega (arith, below, same, long)

pub raise_as-requires-clause-step : goal.raise_as-requires-clause-step
raise_as-requires-clause-step c = (
  view_in c.args.seat.now.me.0,
  c.requires.at.single,
  raise_at c.shared.inside.table.shared.key (view_in c.args.seat.now.me.0) c.args.event c.args.place c.args.value (c.requires.at.setup
      ∙ sym (ap (λ (s : SharedView). setup_for s.opening) c.shared.view_is)) c.requires.at.has.is_seat
      c.requires.may c.requires.place c.requires.raise,
)

pub returns-clause-at : goal.returns-clause-at
returns-clause-at c = (after_did c.args.shared.now c.args.seat.now.table_id c.raise_as.new.seat.table_id c.args.event c.args.seat.now.me
    c.raise_as.result c.raise_as.new.seat.me c.requires.at c.raise_as.ensures.table c.raise_as.ensures.did).at

pub returns-clause-event : goal.returns-clause-event
returns-clause-event c = (after_did c.args.shared.now c.args.seat.now.table_id c.raise_as.new.seat.table_id c.args.event c.args.seat.now.me
    c.raise_as.result c.raise_as.new.seat.me c.requires.at c.raise_as.ensures.table c.raise_as.ensures.did).event_is

use Rattle.std.proofs.Common.{◌++◌, ap, subst, ◌∙◌}
use Rattle.std.specs.Prelude.{IfOk}
use Rattle.heap_rule.proofs.ClosingLemmas.{all_there}
use Rattle.heap_rule.specs.Seats.{views_of}
use Rattle.heap_table.specs.AtTable.{IsClosedReached, IsClosedSound}
use Rattle.heap_table.specs.Rule.{setup_for}
use Rattle.heap_rule.proofs.closing.close_shared.Goals as goal

pub gather_carriers-last-requires : goal.gather_carriers-last-requires
gather_carriers-last-requires c = record { carriers = c.requires.at_table }

pub gather_seats-last-requires-clause-seats : goal.gather_seats-last-requires-clause-seats
gather_seats-last-requires-clause-seats c = record { each = λ s p. (c.requires.seats_are.each s p).table }

pub close_table-requires-clause-all : goal.close_table-requires-clause-all
close_table-requires-clause-all c = all_there c.args.shared c.args.seats.items c.args.carriers.items c.gather_carriers-last.result.me.0
    c.gather_seats-last.result.me.0 c.requires c.gather_carriers-last.ensures.counted
    c.gather_seats-last.ensures.counted c.gather_seats-last.ensures.views

pub returns-clause-sound : goal.returns-clause-sound
returns-clause-sound c = subst (λ vs. IfOk c.close_table.result (λ closed. IsClosedSound
    (setup_for c.args.shared.opening) closed.now closed.kept vs)) (c.gather_seats-last.ensures.views
    ∙ ap (λ vs. views_of c.args.seats.items ++ vs) c.gather_carriers-last.ensures.views) c.close_table.ensures.sound

pub returns-clause-reached : goal.returns-clause-reached
returns-clause-reached c = subst (λ vs. IfOk c.close_table.result (λ closed. IsClosedReached c.args.shared.opening closed.now closed.kept vs))
    (c.gather_seats-last.ensures.views ∙ ap (λ vs. views_of c.args.seats.items ++ vs) c.gather_carriers-last.ensures.views)
    c.close_table.ensures.reached

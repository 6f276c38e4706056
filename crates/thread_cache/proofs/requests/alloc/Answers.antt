use Rattle.std.proofs.Common.{◌-◌, refl}
use Rattle.thread_cache.proofs.RequestLemmas.{answers_class, answers_span, class_cached, class_light, class_none, class_order, class_row, span_cached, span_light, span_none, span_order, span_row}
use Rattle.thread_cache.proofs.requests.alloc.Goals as goal

pub returns-in-Some-clause-answers : goal.returns-in-Some-clause-answers
returns-in-Some-clause-answers g c = answers_class c.args.bytes c.in-Some.class.number c.args.seat.now.view c.alloc_small.new.seat.view
    c.alloc_small.result c.in-Some.ensures.some c.alloc_small.ensures.allocated c.alloc_small.ensures.refused

pub returns-in-Some-clause-none : goal.returns-in-Some-clause-none
returns-in-Some-clause-none g c = class_none c.args.bytes (c.alloc_small.new.seat.view.moves - c.args.seat.now.view.moves)
    c.in-Some.class.number c.args.seat.now c.alloc_small.new.seat c.alloc_small.result c.in-Some.class.is c.alloc_small.ensures.none

pub returns-in-Some-clause-row : goal.returns-in-Some-clause-row
returns-in-Some-clause-row g c = class_row c.args.bytes (c.alloc_small.new.seat.view.moves - c.args.seat.now.view.moves)
    c.in-Some.class.number c.args.seat.now c.alloc_small.new.seat c.in-Some.class.is c.alloc_small.ensures.row

pub returns-in-Some-clause-light : goal.returns-in-Some-clause-light
returns-in-Some-clause-light g c = class_light c.args.bytes (c.alloc_small.new.seat.view.moves - c.args.seat.now.view.moves)
    _ c.args.seat.now c.alloc_small.new.seat c.alloc_small.result c.alloc_small.ensures.light

pub returns-in-None-clause-answers : goal.returns-in-None-clause-answers
returns-in-None-clause-answers g c = answers_span c.args.bytes c.args.seat.now.view c.alloc_large.new.seat.view c.alloc_large.result
    (c.in-None.ensures.none.0 refl) c.alloc_large.ensures.allocated c.alloc_large.ensures.refused

pub returns-in-None-clause-none : goal.returns-in-None-clause-none
returns-in-None-clause-none g c = span_none c.args.bytes (c.alloc_large.new.seat.view.moves - c.args.seat.now.view.moves)
    c.args.seat.now c.alloc_large.new.seat c.alloc_large.result c.alloc_large.ensures.none

pub returns-in-None-clause-row : goal.returns-in-None-clause-row
returns-in-None-clause-row g c = span_row c.args.bytes (c.alloc_large.new.seat.view.moves - c.args.seat.now.view.moves)
    c.args.seat.now c.alloc_large.new.seat c.alloc_large.ensures.row

pub returns-in-None-clause-light : goal.returns-in-None-clause-light
returns-in-None-clause-light g c = span_light c.args.bytes (c.alloc_large.new.seat.view.moves - c.args.seat.now.view.moves)
    _ c.args.seat.now c.alloc_large.new.seat c.alloc_large.result c.alloc_large.ensures.row

pub returns-in-Some-clause-order : goal.returns-in-Some-clause-order
returns-in-Some-clause-order g c = class_order c.args.bytes c.in-Some.class.number c.args.seat.now.view c.alloc_small.new.seat.view
    c.alloc_small.result c.in-Some.ensures.some c.alloc_small.ensures.order

pub returns-in-None-clause-order : goal.returns-in-None-clause-order
returns-in-None-clause-order g c = span_order c.args.bytes c.args.seat.now.view c.alloc_large.new.seat.view c.alloc_large.result
    (c.in-None.ensures.none.0 refl)

pub returns-in-Some-clause-cached : goal.returns-in-Some-clause-cached
returns-in-Some-clause-cached g c = class_cached c.args.bytes c.in-Some.class.number c.args.seat.now c.alloc_small.new.seat
    c.in-Some.ensures.some c.alloc_small.ensures.cached

pub returns-in-None-clause-cached : goal.returns-in-None-clause-cached
returns-in-None-clause-cached g c = span_cached c.args.bytes c.args.seat.now c.alloc_large.new.seat (c.in-None.ensures.none.0 refl)

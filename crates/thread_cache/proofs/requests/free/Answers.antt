use Rattle.std.proofs.Common.{arith, refl}
use Rattle.heap_model.specs.Geometry.{largest_capacity, superblock_of}
use Rattle.thread_cache.specs.Requests.{of_a_class, of_a_span}
use Rattle.thread_cache.proofs.RequestLemmas.{free_class_light, free_class_row, free_span_light, free_span_row, freed_class, freed_span, large_span, may_split, short_block, small_block}
use Rattle.thread_cache.proofs.requests.free.Goals as goal

pub overflow_mul-block : goal.overflow_mul-block
unfolding largest_capacity
overflow_mul-block g c = let short = short_block c.args.seat.now.view c.recall_soundness.ensures c.args.block c.requires.held in omega arith

pub free_small-requires-clause-held : goal.free_small-requires-clause-held
free_small-requires-clause-held g c = (small_block c.args.seat.now.view c.recall_soundness.ensures c.args.block c.requires.held
    c.in-Some.class.number c.in-Some.ensures.some).there

pub free_large-requires-clause-held : goal.free_large-requires-clause-held
free_large-requires-clause-held g c = may_split c.args.seat.now.view c.recall_soundness.ensures c.args.block c.requires.held
    (c.in-None.ensures.none.0 refl)

pub returns-in-Some-clause-freed : goal.returns-in-Some-clause-freed
returns-in-Some-clause-freed g c = freed_class c.args.seat.now c.free_small.new.seat c.in-Some.class.number c.args.block
    (small_block c.args.seat.now.view c.recall_soundness.ensures c.args.block c.requires.held c.in-Some.class.number c.in-Some.ensures.some)
    c.free_small.result c.free_small.ensures.freed

pub returns-in-Some-clause-may : goal.returns-in-Some-clause-may
returns-in-Some-clause-may g c = of_a_class c.in-Some.class.number
    (small_block c.args.seat.now.view c.recall_soundness.ensures c.args.block c.requires.held c.in-Some.class.number c.in-Some.ensures.some)
    c.free_small.ensures.may

pub returns-in-Some-clause-light : goal.returns-in-Some-clause-light
returns-in-Some-clause-light g c = free_class_light c.args.seat.now c.free_small.new.seat c.in-Some.class.number c.args.block
    (small_block c.args.seat.now.view c.recall_soundness.ensures c.args.block c.requires.held c.in-Some.class.number c.in-Some.ensures.some)
    c.free_small.result c.free_small.ensures.freed c.free_small.ensures.light

pub returns-in-Some-clause-row : goal.returns-in-Some-clause-row
returns-in-Some-clause-row g c = free_class_row c.args.seat.now c.free_small.new.seat c.in-Some.class.number c.args.block
    (small_block c.args.seat.now.view c.recall_soundness.ensures c.args.block c.requires.held c.in-Some.class.number c.in-Some.ensures.some)
    c.free_small.ensures.row

pub returns-in-None-clause-freed : goal.returns-in-None-clause-freed
returns-in-None-clause-freed g c = freed_span c.args.seat.now c.free_large.new.seat c.recall_soundness.ensures c.args.block c.requires.held
    (c.in-None.ensures.none.0 refl) c.free_large.result c.free_large.ensures.freed

pub returns-in-None-clause-may : goal.returns-in-None-clause-may
returns-in-None-clause-may g c = of_a_span (superblock_of c.args.seat.now.view.setup.capacity c.args.block.first_word)
    (large_span c.args.seat.now.view c.recall_soundness.ensures c.args.block c.requires.held (c.in-None.ensures.none.0 refl)) c.free_large.ensures.may

pub returns-in-None-clause-light : goal.returns-in-None-clause-light
returns-in-None-clause-light g c = free_span_light c.args.seat.now c.free_large.new.seat c.recall_soundness.ensures c.args.block c.requires.held
    (c.in-None.ensures.none.0 refl) _ c.free_large.result c.free_large.ensures.freed

pub returns-in-None-clause-row : goal.returns-in-None-clause-row
returns-in-None-clause-row g c = free_span_row c.args.seat.now c.free_large.new.seat c.recall_soundness.ensures c.args.block c.requires.held
    (c.in-None.ensures.none.0 refl) c.free_large.ensures.row c.free_large.ensures.may

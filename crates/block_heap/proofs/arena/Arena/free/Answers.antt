use Rattle.heap_model.specs.Geometry.{largest_capacity_fits}
use Rattle.std.proofs.Common.{refl, arith}
use Rattle.std.proofs.lemmas.Result.{on_ok_weaker}
use Rattle.block_heap.specs.Parts.{parts_of}
use Rattle.block_heap.proofs.AllocLemmas.{few_held, size_of_held, no_size_of_held, comes_to_class, comes_as_large}
use Rattle.block_heap.proofs.arena.Arena.free.Goals as goal

pub overflow_mul-b : goal.overflow_mul-b
overflow_mul-b g c = let few = few_held (parts_of c.args.self.now) c.args.b c.requires.running c.requires.holds in omega (arith, largest_capacity_fits)

pub free_small-requires-clause-size : goal.free_small-requires-clause-size
free_small-requires-clause-size g c =
    size_of_held (parts_of c.args.self.now) c.args.b c.in-Some.class.number c.requires.running c.requires.holds c.in-Some.ensures.some

pub free_large-requires-clause-large : goal.free_large-requires-clause-large
free_large-requires-clause-large g c = no_size_of_held c.args.b (c.in-None.ensures.none.0 refl)

pub returns-in-Some-clause-order : goal.returns-in-Some-clause-order
returns-in-Some-clause-order g c =
    let p = parts_of c.args.self.now in
    on_ok_weaker c.free_small.result
    (comes_to_class c.args.b c.in-Some.class.number p (parts_of c.free_small.new.self) c.in-Some.ensures.some
    (size_of_held p c.args.b c.in-Some.class.number c.requires.running c.requires.holds c.in-Some.ensures.some))
    c.free_small.ensures.order

pub returns-in-None-clause-order : goal.returns-in-None-clause-order
returns-in-None-clause-order g c =
    on_ok_weaker c.free_large.result (comes_as_large c.args.b (parts_of c.args.self.now) (parts_of c.free_large.new.self)
    (c.in-None.ensures.none.0 refl))
    c.free_large.ensures.order

use Rattle.std.proofs.Common.{[], ◌∷◌, arith}
use Rattle.first_filter.proofs.Kept.{alloc_keeps, holds_then}
use Rattle.first_filter.proofs.run.build.Goals as goal

pub push-requires-2 : goal.push-requires-2
push-requires-2 g c = (c.in_ok-last.ensures.ok [] c.requires).own 0 (omega arith)

pub push-requires-3 : goal.push-requires-3
push-requires-3 g c =
    let view = g.H.HeapSeat.view in
    let two = c.in_ok-middle.ensures.ok (c.in_ok-last.last ∷ []) (c.in_ok-last.ensures.ok [] c.requires) in
    let three = holds_then (view c.push-2.new.heap) (view c.alloc.new.self) (c.in_ok-middle.middle ∷ c.in_ok-last.last ∷ [])
    (g.met.H.HeapSeat.seat c.push-2.new.heap) (alloc_keeps _ c.in_ok-alloc.field-0 (view c.push-2.new.heap) (view c.alloc.new.self)
    c.in_ok-alloc.ensures.ok c.alloc.ensures.counted.goes_on.kinds) two in
    three.own 0 (omega arith)

pub returns : goal.returns
returns g c =
    let view = g.H.HeapSeat.view in
    let two = c.in_ok-middle.ensures.ok (c.in_ok-last.last ∷ []) (c.in_ok-last.ensures.ok [] c.requires) in
    let three = holds_then (view c.push-2.new.heap) (view c.alloc.new.self) (c.in_ok-middle.middle ∷ c.in_ok-last.last ∷ [])
    (g.met.H.HeapSeat.seat c.push-2.new.heap) (alloc_keeps _ c.in_ok-alloc.field-0 (view c.push-2.new.heap) (view c.alloc.new.self)
    c.in_ok-alloc.ensures.ok c.alloc.ensures.counted.goes_on.kinds) two in
    c.in_ok-first.ensures.ok (c.in_ok-middle.middle ∷ c.in_ok-last.last ∷ []) three

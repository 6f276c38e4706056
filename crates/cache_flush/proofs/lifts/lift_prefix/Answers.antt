use Rattle.std.proofs.Common.{◌≡◌, sym, subst, ap, ◌∙◌, arith}
use Rattle.heap_model.specs.Geometry.{superblock_of}
use Rattle.core_model.specs.View.{Setup}
use Rattle.seat_costs.proofs.AskedLemmas.{asked_then}
use Rattle.seat_costs.proofs.RowLemmas.{marks_behind}
use Rattle.cache_flush.specs.Lifts.{IsLifting}
use Rattle.cache_flush.proofs.LiftLemmas.{above}
use Rattle.cache_flush.proofs.LiftingLemmas.{lifted_all, lifted_some, lifting_can, lifting_most, lifting_on, lifting_one, lifting_row, lifting_setup}
use Rattle.cache_flush.proofs.lifts.lift_prefix.Goals as goal

pub superblock_of-d-requires : goal.superblock_of-d-requires
superblock_of-d-requires g c = let most = above c.args.seat.now.view c.recall_soundness.ensures c.args.class.number c.requires.some in
    let a = c.new-geometry.ensures ∙ c.capacity.ensures in let b = c.cache-first.ensures.first in omega arith

pub loop-class-init : goal.loop-class-init
loop-class-init g c =
    let v = c.args.seat.now.view in
    let w = c.lift.new.seat.view in
    let at : c.superblock_of-d.result ≡ superblock_of v.setup.capacity c.cache-first.result.0 =
    c.superblock_of-d.ensures ∙ ap (λ n. superblock_of n c.cache-first.result.0) (c.new-geometry.ensures ∙ c.capacity.ensures) in record {
      lifting = subst (λ d. IsLifting c.args.class.number d c.cache-first.result.0 v w) (sym at)
          (lifting_one v w c.args.class.number c.cache-first.result.0 c.requires.some c.requires.no_batch c.cache-first.ensures.first
          c.in_ok-lift.ensures.lifted c.lift.ensures.row.view);
      marks = c.lift.ensures.row.marks;
      asked = c.lift.ensures.asked;
      is_of = c.lift.ensures.seat;
    }

pub returns-then-count-eq0-clause-lifted : goal.returns-then-count-eq0-clause-lifted
returns-then-count-eq0-clause-lifted g c =
    lifted_all c.args.seat.now.view c.recall_soundness.ensures c.args.class.number c.args.class.is c.loop-class.seat.view
    c.superblock_of-d.result c.loop-class.last c.loop-class.invariant.lifting
    (let a = c.if-count-eq0.true in let b = c.cache-next.ensures.count in omega arith)

pub superblock_of-requires : goal.superblock_of-requires
superblock_of-requires g c =
    let t = c.loop-class.seat.view in
    let same = lifting_setup c.args.seat.now.view c.recall_soundness.ensures c.args.class.number c.args.class.is t
    c.superblock_of-d.result c.loop-class.last c.loop-class.invariant.lifting in
    let most = above t c.recall_soundness-in-loop-class.ensures c.args.class.number (let a = c.if-count-eq0.false in
    let b = c.cache-next.ensures.count in omega arith) in
    let a = c.new-geometry.ensures ∙ c.capacity.ensures ∙ ap (λ (k : Setup). k.capacity) (sym same) in
    let b = c.cache-next.ensures.first in omega arith

pub returns-then-superblock_of-d-clause-lifted : goal.returns-then-superblock_of-d-clause-lifted
returns-then-superblock_of-d-clause-lifted g c =
    let v = c.args.seat.now.view in
    let at : c.superblock_of.result ≡ superblock_of v.setup.capacity c.cache-next.result.0 =
    c.superblock_of.ensures ∙ ap (λ n. superblock_of n c.cache-next.result.0) (c.new-geometry.ensures ∙ c.capacity.ensures) in
    lifted_some v c.recall_soundness.ensures c.args.class.number c.args.class.is c.loop-class.seat.view
    c.superblock_of-d.result c.loop-class.last c.loop-class.invariant.lifting
    (λ same. c.if-superblock_of-d.true (at ∙ ap (superblock_of v.setup.capacity) c.cache-next.ensures.first ∙ same))

pub returns-then-superblock_of-d-clause-row : goal.returns-then-superblock_of-d-clause-row
returns-then-superblock_of-d-clause-row g c = record {
  view = lifting_row c.args.seat.now.view c.recall_soundness.ensures c.args.class.number c.args.class.is c.loop-class.seat.view
      c.superblock_of-d.result c.loop-class.last c.loop-class.invariant.lifting;
  marks = c.loop-class.invariant.marks;
}

pub returns-then-count-eq0-clause-row : goal.returns-then-count-eq0-clause-row
returns-then-count-eq0-clause-row g c = record {
  view = lifting_row c.args.seat.now.view c.recall_soundness.ensures c.args.class.number c.args.class.is c.loop-class.seat.view
      c.superblock_of-d.result c.loop-class.last c.loop-class.invariant.lifting;
  marks = c.loop-class.invariant.marks;
}

pub lift-requires-in-loop-class-clause-can : goal.lift-requires-in-loop-class-clause-can
lift-requires-in-loop-class-clause-can g c =
    let v = c.args.seat.now.view in
    let at : c.superblock_of.result ≡ superblock_of v.setup.capacity c.cache-next.result.0 =
    c.superblock_of.ensures ∙ ap (λ n. superblock_of n c.cache-next.result.0) (c.new-geometry.ensures ∙ c.capacity.ensures) in
    lifting_can v c.recall_soundness.ensures c.args.class.number c.args.class.is c.loop-class.seat.view
    c.superblock_of-d.result c.loop-class.last c.loop-class.invariant.lifting
    (let a = c.if-count-eq0.false in let b = c.cache-next.ensures.count in omega arith)
    (ap (superblock_of v.setup.capacity) (sym c.cache-next.ensures.first) ∙ sym at ∙ c.if-superblock_of-d.false)

pub returns-in_err-lift-2-clause-row : goal.returns-in_err-lift-2-clause-row
returns-in_err-lift-2-clause-row g c = record {
  view = lifting_most c.args.seat.now.view c.recall_soundness.ensures c.args.class.number c.args.class.is c.loop-class.seat.view
      c.superblock_of-d.result c.loop-class.last c.loop-class.invariant.lifting
      c.lift-in-loop-class.new.seat.view (let a = c.if-count-eq0.false in let b = c.cache-next.ensures.count in
      omega arith) c.lift-in-loop-class.ensures.row.view;
  marks = marks_behind c.args.seat.now c.loop-class.seat c.lift-in-loop-class.new.seat c.loop-class.invariant.lifting.row
      c.loop-class.invariant.marks c.lift-in-loop-class.ensures.row;
}

pub loop-class-preserved : goal.loop-class-preserved
loop-class-preserved g c =
    let v = c.args.seat.now.view in
    let at : c.superblock_of.result ≡ superblock_of v.setup.capacity c.cache-next.result.0 =
    c.superblock_of.ensures ∙ ap (λ n. superblock_of n c.cache-next.result.0) (c.new-geometry.ensures ∙ c.capacity.ensures) in record {
      lifting = lifting_on v c.recall_soundness.ensures c.args.class.number c.args.class.is c.loop-class.seat.view
          c.superblock_of-d.result c.loop-class.last c.loop-class.invariant.lifting
          c.lift-in-loop-class.new.seat.view c.cache-next.result.0 (let a = c.if-count-eq0.false in let b = c.cache-next.ensures.count in
          omega arith) c.cache-next.ensures.first
          (ap (superblock_of v.setup.capacity) (sym c.cache-next.ensures.first) ∙ sym at
          ∙ c.if-superblock_of-d.false) c.in_ok-lift-2.ensures.lifted c.lift-in-loop-class.ensures.row.view;
      marks = marks_behind c.args.seat.now c.loop-class.seat c.lift-in-loop-class.new.seat c.loop-class.invariant.lifting.row
          c.loop-class.invariant.marks c.lift-in-loop-class.ensures.row;
      asked = asked_then c.loop-class.invariant.asked c.lift-in-loop-class.ensures.asked;
      is_of = c.lift-in-loop-class.ensures.seat;
    }

pub returns-in_err-lift-2-clause-asked : goal.returns-in_err-lift-2-clause-asked
returns-in_err-lift-2-clause-asked g c = asked_then c.loop-class.invariant.asked c.lift-in-loop-class.ensures.asked

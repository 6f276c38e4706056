use Rattle.std.proofs.Common.{true, sym, subst, ◌∙◌, arith}
use Rattle.std.proofs.lemmas.Result.{IfOk-weaker, on_ok_weaker}
use Rattle.heap_model.specs.Counting.{one_if}
use Rattle.block_heap.specs.declared.arena.Arena.{Arena}
use Rattle.block_heap.specs.Parts.{parts_of, held_in}
use Rattle.block_heap.specs.Refill.{FindsPartial, FindsFree, Refills}
use Rattle.block_heap.specs.Running.{LeavesHeld}
use Rattle.block_heap.specs.Steps.{IsRefilling, Spends}
use Rattle.block_heap.proofs.SpendLemmas.{spends_then}
use Rattle.block_heap.proofs.PartialLemmas.{refilling_then}
use Rattle.block_heap.proofs.RefilledLemmas.{fresh_refills, partial_refills, free_refills, refills_from_fresh}
use Rattle.block_heap.specs.Order.{RefillsFrom, from_class_list, OrdersPartial, OrdersFree}
use Rattle.block_heap.proofs.OrderLemmas.{refills_from_free}
use Rattle.block_heap.proofs.arena.Arena.refill.Goals.{then-branch-via-then-branch, then-branch-via-else-branch+in_ok-cut_free+then-branch-2}
use Rattle.block_heap.proofs.arena.Arena.refill.Goals as goal
use Rattle.block_heap.proofs.RefillLemmas.{leaves_held_all}

pub returns-in_err-cut_free-clause-leaves_held : goal.returns-in_err-cut_free-clause-leaves_held
returns-in_err-cut_free-clause-leaves_held g c =
    leaves_held_all (parts_of c.args.self.now) (parts_of c.take_partial.new.self) (parts_of c.cut_free.new.self) c.take_partial.ensures.held
    c.take_partial.ensures.leaves_held c.cut_free.ensures.leaves_held

pub returns-then-branch-clause-refilling : goal.returns-then-branch-clause-refilling
returns-then-branch-clause-refilling g c =
    let p = parts_of c.args.self.now in
    elim c.then-branch.branch as (λ _. IsRefilling c.args.class.number p (parts_of c.then-branch.self)) [
      | then-branch-via-then-branch w ↦ subst (λ (a : Arena _). IsRefilling c.args.class.number p (parts_of a))
          (sym w.self-is) c.in_ok-take_partial.ensures.refilling
      | then-branch-via-else-branch+in_ok-cut_free+then-branch-2 w ↦ subst (λ (a : Arena _). IsRefilling c.args.class.number p (parts_of a))
          (sym w.self-is)
          (refilling_then c.args.class.number p (parts_of c.take_partial.new.self)
          (parts_of w.cut_free.new.self) c.take_partial.ensures.leaves_held.capacity
          c.in_ok-take_partial.ensures.refilling w.in_ok-cut_free.ensures.refilling)
    ]

pub returns-then-branch-clause-leaves_held : goal.returns-then-branch-clause-leaves_held
returns-then-branch-clause-leaves_held g c =
    let p = parts_of c.args.self.now in
    elim c.then-branch.branch as (λ _. LeavesHeld (held_in p) p (parts_of c.then-branch.self)) [
      | then-branch-via-then-branch w ↦ subst (λ (a : Arena _). LeavesHeld (held_in p) p (parts_of a))
          (sym w.self-is) c.take_partial.ensures.leaves_held
      | then-branch-via-else-branch+in_ok-cut_free+then-branch-2 w ↦ subst (λ (a : Arena _). LeavesHeld (held_in p) p (parts_of a)) (sym w.self-is)
          (leaves_held_all p (parts_of c.take_partial.new.self) (parts_of w.cut_free.new.self)
          c.take_partial.ensures.held c.take_partial.ensures.leaves_held
          w.cut_free.ensures.leaves_held)
    ]

pub returns-clause-ok : goal.returns-clause-ok
returns-clause-ok g c =
    let p = parts_of c.args.self.now in
    let a = parts_of c.take_partial.new.self in
    let b = parts_of c.cut_free.new.self in
    IfOk-weaker c.cut_fresh.result _ _
    (fresh_refills c.args.class.number p a b c.args.class.is c.take_partial.ensures.leaves_held c.in_ok-take_partial.ensures.taken
    c.cut_free.ensures.leaves_held
    (parts_of c.cut_fresh.new.self) c.in_ok-cut_free.ensures.taken c.cut_fresh.ensures.leaves_held
    (subst (λ some. FindsPartial c.args.class.number some p a) c.if-branch.false c.in_ok-take_partial.ensures.ok)
    (subst (λ some. FindsFree c.args.class.number some a b) c.if-branch-2.false c.in_ok-cut_free.ensures.ok) c.requires.empty)
    c.cut_fresh.ensures.ok

pub returns-clause-refilling : goal.returns-clause-refilling
returns-clause-refilling g c =
    let p = parts_of c.args.self.now in
    let a = parts_of c.take_partial.new.self in
    let b = parts_of c.cut_free.new.self in
    let then = refilling_then c.args.class.number p a b c.take_partial.ensures.leaves_held.capacity c.in_ok-take_partial.ensures.refilling
    c.in_ok-cut_free.ensures.refilling in
    on_ok_weaker c.cut_fresh.result (refilling_then c.args.class.number p b (parts_of c.cut_fresh.new.self)
    (c.cut_free.ensures.leaves_held.capacity ∙ c.take_partial.ensures.leaves_held.capacity) then) c.cut_fresh.ensures.refilling

pub returns-clause-leaves_held : goal.returns-clause-leaves_held
returns-clause-leaves_held g c =
    leaves_held_all (parts_of c.args.self.now) (parts_of c.cut_free.new.self) (parts_of c.cut_fresh.new.self)
    (c.cut_free.ensures.held ∙ c.take_partial.ensures.held)
    (leaves_held_all (parts_of c.args.self.now) (parts_of c.take_partial.new.self) (parts_of c.cut_free.new.self) c.take_partial.ensures.held
    c.take_partial.ensures.leaves_held c.cut_free.ensures.leaves_held) c.cut_fresh.ensures.leaves_held

pub returns-then-branch-clause-left : goal.returns-then-branch-clause-left
returns-then-branch-clause-left g c =
    let p = parts_of c.args.self.now in
    let class = c.args.class.number in
    elim c.then-branch.branch as (λ _. Spends 1 class p (parts_of c.then-branch.self)) [
      | then-branch-via-then-branch w ↦ subst (λ (a : Arena _). Spends 1 class p (parts_of a)) (sym w.self-is)
          (subst (λ some. Spends (one_if some) class p (parts_of c.take_partial.new.self)) w.if-branch.true c.in_ok-take_partial.ensures.left)
      | then-branch-via-else-branch+in_ok-cut_free+then-branch-2 w ↦ subst (λ (a : Arena _). Spends 1 class p (parts_of a)) (sym w.self-is)
          (spends_then 1 (one_if c.in_ok-take_partial.field-0) 1 class p (parts_of c.take_partial.new.self) (parts_of w.cut_free.new.self) (omega arith)
          c.in_ok-take_partial.ensures.left
          (subst (λ some. Spends (one_if some) class (parts_of c.take_partial.new.self) (parts_of w.cut_free.new.self)) w.if-branch-2.true
          w.in_ok-cut_free.ensures.left))
    ]

pub returns-clause-left : goal.returns-clause-left
returns-clause-left g c =
    let p = parts_of c.args.self.now in
    let a = parts_of c.take_partial.new.self in
    let b = parts_of c.cut_free.new.self in
    let class = c.args.class.number in
    IfOk-weaker c.cut_fresh.result _ _
    (λ some spends. spends_then (one_if some) 0 (one_if some) class p b (parts_of c.cut_fresh.new.self) (omega arith)
    (spends_then 0 (one_if c.in_ok-take_partial.field-0) (one_if c.in_ok-cut_free.field-0) class p a b (omega arith) c.in_ok-take_partial.ensures.left
    c.in_ok-cut_free.ensures.left) spends)
    c.cut_fresh.ensures.left

pub returns-then-branch-clause-order : goal.returns-then-branch-clause-order
returns-then-branch-clause-order g c = λ is.
    let p = parts_of c.args.self.now in
    let a = parts_of c.take_partial.new.self in
    let class = c.args.class.number in
    elim c.then-branch.branch as (λ _. RefillsFrom class p (parts_of c.then-branch.self)) [
      | then-branch-via-then-branch w ↦ subst (λ (x : Arena _). RefillsFrom class p (parts_of x)) (sym w.self-is)
          (let takes = subst (λ some. OrdersPartial class some p a) w.if-branch.true c.in_ok-take_partial.ensures.order in
          from_class_list takes.0 takes.1)
      | then-branch-via-else-branch+in_ok-cut_free+then-branch-2 w ↦ subst (λ (x : Arena _). RefillsFrom class p (parts_of x)) (sym w.self-is)
          (let found = subst (λ some. OrdersPartial class some p a) w.if-branch.false c.in_ok-take_partial.ensures.order in
          let cuts = subst (λ some. OrdersFree class some a (parts_of w.cut_free.new.self)) w.if-branch-2.true w.in_ok-cut_free.ensures.order in
          let part = subst (λ some. FindsPartial class some p a) w.if-branch.false c.in_ok-take_partial.ensures.ok in
          refills_from_free class p a (parts_of w.cut_free.new.self) found.0 found.1 c.in_ok-take_partial.ensures.taken c.requires.running
          part.1.0 cuts.0 cuts.1
          w.in_ok-cut_free.ensures.taken)
    ]

pub returns-clause-order : goal.returns-clause-order
returns-clause-order g c =
    let p = parts_of c.args.self.now in
    let a = parts_of c.take_partial.new.self in
    let b = parts_of c.cut_free.new.self in
    IfOk-weaker c.cut_fresh.result _ _
    (refills_from_fresh c.args.class.number p a b c.args.class.is c.take_partial.ensures.leaves_held c.in_ok-take_partial.ensures.taken
    c.cut_free.ensures.leaves_held
    (parts_of c.cut_fresh.new.self) c.in_ok-cut_free.ensures.taken c.cut_fresh.ensures.leaves_held
    (subst (λ some. FindsPartial c.args.class.number some p a) c.if-branch.false c.in_ok-take_partial.ensures.ok)
    (subst (λ some. FindsFree c.args.class.number some a b) c.if-branch-2.false c.in_ok-cut_free.ensures.ok)
    (subst (λ some. OrdersPartial c.args.class.number some p a) c.if-branch.false c.in_ok-take_partial.ensures.order))
    c.cut_fresh.ensures.order

pub returns-then-branch-clause-ok : goal.returns-then-branch-clause-ok
returns-then-branch-clause-ok g c =
    let p = parts_of c.args.self.now in
    let a = parts_of c.take_partial.new.self in
    elim c.then-branch.branch as (λ _. Refills c.args.class.number true p (parts_of c.then-branch.self)) [
      | then-branch-via-then-branch w ↦ subst (λ (m : Arena _). Refills c.args.class.number true p (parts_of m)) (sym w.self-is)
          (partial_refills c.args.class.number p a (subst (λ some. FindsPartial c.args.class.number some p a)
          w.if-branch.true c.in_ok-take_partial.ensures.ok))
      | then-branch-via-else-branch+in_ok-cut_free+then-branch-2 w ↦ subst (λ (m : Arena _). Refills c.args.class.number true p (parts_of m))
          (sym w.self-is)
          (free_refills c.args.class.number p a (parts_of w.cut_free.new.self)
          (subst (λ some. FindsPartial c.args.class.number some p a) w.if-branch.false c.in_ok-take_partial.ensures.ok)
          (subst (λ some. FindsFree c.args.class.number some a (parts_of w.cut_free.new.self)) w.if-branch-2.true w.in_ok-cut_free.ensures.ok))
    ]

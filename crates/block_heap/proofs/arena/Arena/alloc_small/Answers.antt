use Rattle.std.proofs.Common.{Bool, subst}
use Rattle.block_heap.specs.Parts.{parts_of}
use Rattle.block_heap.specs.Refill.{Refills}
use Rattle.block_heap.proofs.AllocLemmas.{drains_nothing, still_none, misses_in_class, gets_in_class, drains_block}
use Rattle.block_heap.proofs.RefillLemmas.{leaves_held_all}
use Rattle.block_heap.proofs.OrderLemmas.{takes_first}
use Rattle.block_heap.proofs.SpendLemmas.{costs_of}
use Rattle.block_heap.proofs.arena.Arena.alloc_small.Goals as goal

pub returns-then-not-branch-clause-drains : goal.returns-then-not-branch-clause-drains
returns-then-not-branch-clause-drains g c =
    let p = parts_of c.args.self.now in
    let q = parts_of c.stock.new.self in
    let none = subst (λ (some : Bool). Refills c.args.class.number some p q) c.if-not-branch.true c.in_ok-stock.ensures.ok in (
      drains_nothing c.args.class.number p q c.args.class.is c.stock.ensures.leaves_held.capacity c.in_ok-stock.ensures.refilling none,
      still_none c.args.class.number p q none,
    )

pub returns-in_err-pop_block-clause-leaves_held : goal.returns-in_err-pop_block-clause-leaves_held
returns-in_err-pop_block-clause-leaves_held g c =
    leaves_held_all (parts_of c.args.self.now) (parts_of c.stock.new.self)
    (parts_of c.pop_block.new.self) c.stock.ensures.held c.stock.ensures.leaves_held c.pop_block.ensures.leaves_held

pub returns-clause-leaves_held : goal.returns-clause-leaves_held
returns-clause-leaves_held g c =
    leaves_held_all (parts_of c.args.self.now) (parts_of c.stock.new.self)
    (parts_of c.pop_block.new.self) c.stock.ensures.held c.stock.ensures.leaves_held c.pop_block.ensures.leaves_held

pub returns-clause-ok : goal.returns-clause-ok
returns-clause-ok g c =
    let p = parts_of c.args.self.now in
    let q = parts_of c.stock.new.self in
    let found = subst (λ (some : Bool). Refills c.args.class.number some p q) c.if-not-branch.false c.in_ok-stock.ensures.ok in
    gets_in_class c.args.class.number c.in_ok-pop_block.field-0 p q (parts_of c.pop_block.new.self) c.args.class.is c.requires.short
    c.stock.ensures.leaves_held.capacity c.pop_block.ensures.leaves_held.capacity c.in_ok-stock.ensures.refilling found.1
    c.in_ok-pop_block.ensures.ok

pub returns-clause-drains : goal.returns-clause-drains
returns-clause-drains g c =
    let p = parts_of c.args.self.now in
    let q = parts_of c.stock.new.self in
    let r = parts_of c.pop_block.new.self in (
      drains_block c.args.class.number c.in_ok-pop_block.field-0 p q r c.stock.ensures.leaves_held.capacity c.in_ok-stock.ensures.refilling
          c.in_ok-pop_block.ensures.ok,
      costs_of c.args.class.number c.in_ok-stock.field-0 p q r c.if-not-branch.false c.in_ok-stock.ensures.left c.in_ok-stock.ensures.steps
          c.pop_block.ensures.leaves_held.capacity c.in_ok-pop_block.ensures.ok.volatile c.in_ok-pop_block.ensures.runs_within.few,
    )

pub returns-then-not-branch-clause-order : goal.returns-then-not-branch-clause-order
returns-then-not-branch-clause-order g c = tt

pub returns-clause-order : goal.returns-clause-order
returns-clause-order g c = record {
  between = parts_of c.stock.new.self;
  stocked = c.in_ok-stock.ensures.order c.if-not-branch.false;
  takes = takes_first c.args.class.number c.in_ok-pop_block.field-0 (parts_of c.stock.new.self)
      (parts_of c.pop_block.new.self) c.pop_block.ensures.leaves_held.capacity
      c.in_ok-pop_block.ensures.ok;
}

pub returns-then-not-branch-clause-ok : goal.returns-then-not-branch-clause-ok
returns-then-not-branch-clause-ok g c =
    let p = parts_of c.args.self.now in
    let q = parts_of c.stock.new.self in
    misses_in_class c.args.class.number p q c.requires.short c.stock.ensures.leaves_held.capacity c.in_ok-stock.ensures.refilling
    (subst (λ (some : Bool). Refills c.args.class.number some p q) c.if-not-branch.true c.in_ok-stock.ensures.ok)

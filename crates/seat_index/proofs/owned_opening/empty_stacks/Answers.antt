use Rattle.std.proofs.Common.{◌+◌, get_or, ap, sym, ◌∙◌, arith}
use Rattle.seat_index.proofs.EntryLemmas.{each_snoc}
use Rattle.seat_index.proofs.StackLemmas.{IsEmptyStack, empty_are}
use Rattle.seat_index.proofs.owned_opening.empty_stacks.Goals as goal

pub loop-class-init : goal.loop-class-init
loop-class-init c = record {
  count = c.in_ok-stacks.ensures.len;
  room = (let k = c.in_ok-stacks.ensures.exact in let l = c.in_ok-stacks.ensures.capacity in omega arith);
  each = λ n x less at. absurd (omega arith);
}

pub loop-class-preserved : goal.loop-class-preserved
loop-class-preserved c = record {
  count = c.push_reserved.ensures.len ∙ ap (λ n. n + 1) c.loop-class.invariant.count;
  room = c.push_reserved.ensures.capacity ∙ c.loop-class.invariant.room;
  each = λ n x less at. each_snoc IsEmptyStack c.loop-class.stacks.items c.in_ok-stack.stack c.loop-class.class
      (let k = c.loop-class.invariant.count in omega arith) c.loop-class.invariant.each
      (record {
        none = c.in_ok-stack.ensures.empty ∙ sym c.in_ok-stack.ensures.room;
        room = λ is. c.in_ok-stack.ensures.room ∙ c.most_cached.ensures is;
      })
      n x less (sym (ap (λ l. get_or l n x) c.push_reserved.ensures.items) ∙ at);
}

pub returns : goal.returns
returns c = λ caches. empty_are c.loop-class.stacks.items caches (let k = c.loop-class.invariant.count in let e = c.loop-class.auto.class-end in
    let t = c.loop-class-test.false in omega arith)
    (λ n x less at. c.loop-class.invariant.each n x (let t = c.loop-class-test.false in omega arith) at)

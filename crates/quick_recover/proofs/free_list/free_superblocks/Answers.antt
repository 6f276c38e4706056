use Rattle.std.proofs.Common.{false, replicate, slice_index, ap, sym, subst, ◌∙◌, arith}
use Rattle.std.proofs.lemmas.Bool.{false≢true}
use Rattle.heap_model.specs.Words.{anchor_state}
use Rattle.super_block.specs.Links.{link_of}
use Rattle.quick_recover.specs.Anchored.{IsListTo}
use Rattle.quick_recover.proofs.ListLemmas.{list_none, list_push, list_end, not_next, too_long}
use Rattle.quick_recover.proofs.free_list.free_superblocks.Goals as goal
use Rattle.quick_recover.proofs.free_list.free_superblocks.Goals.{then-d-used-via-then-d-used, then-d-used-via-else-d-used+then-get, then-d-used-via-else-d-used+else-get+then-not-is_empty}

pub loop-count-init : goal.loop-count-init
loop-count-init c =
    list_none (slice_index c.args.words.now) c.in_ok-marks.marks (c.in_ok-marks.ensures ∙ ap (λ n. replicate n false) c.requires.readable.used_is)
    (link_of c.unpack-next.result.first) c.unpack-next.ensures.first

pub returns-in-None : goal.returns-in-None
returns-in-None c = record {
  ok = list_end (slice_index c.args.words.now) c.loop-count._count c.loop-count.marks
      (subst (λ o. IsListTo (slice_index c.args.words.now) c.loop-count._count (link_of o) c.loop-count.marks) c.in-None.is c.loop-count.invariant);
}

pub returns-then-d-used : goal.returns-then-d-used
returns-then-d-used c =
    let used = c.requires.readable.used_is in
    record {
      ok = not_next (slice_index c.args.words.now) c.loop-count._count
          (link_of c.loop-count.next) c.in-Some.d c.loop-count.marks c.loop-count.invariant (ap link_of c.in-Some.is)
          (λ taken empty unmarked. elim c.then-d-used.branch as (λ _. ⊥) [
            | then-d-used-via-then-d-used w ↦ let past = w.if-d-used.true in omega arith
            | then-d-used-via-else-d-used+then-get w ↦ false≢true (sym unmarked ∙ sym w.get.ensures ∙ w.if-get.true)
            | then-d-used-via-else-d-used+else-get+then-not-is_empty w ↦
                false≢true (sym w.if-not-is_empty.true ∙ w.is_empty.ensures.1
                (ap (λ p. anchor_state (slice_index c.args.words.now p)) w.anchor.ensures ∙ empty))
          ]);
    }

pub loop-count-preserved : goal.loop-count-preserved
loop-count-preserved c =
    let readable = c.requires.readable in
    list_push (slice_index c.args.words.now) c.loop-count._count (link_of c.loop-count.next) c.in-Some.d
    (link_of c.unpack-next-in-loop-count.result.next) c.loop-count.marks c.set.new.self
    readable.formed.used c.loop-count.invariant (ap link_of c.in-Some.is) (let below = c.if-d-used.false in let used = readable.used_is in omega arith)
    (ap (λ p. anchor_state (slice_index c.args.words.now p)) (sym c.anchor.ensures) ∙ c.is_empty.ensures.0 c.if-not-is_empty.false)
    (sym c.get.ensures ∙ c.if-get.false) c.set.ensures (c.unpack-next-in-loop-count.ensures ∙ ap (slice_index c.args.words.now) c.link.ensures)

pub returns : goal.returns
returns c = record {
  ok = too_long (slice_index c.args.words.now) c.loop-count._count (link_of c.loop-count.next) c.loop-count.marks
      (let past = c.loop-count-test.false in let used = c.requires.readable.used_is in omega arith) c.loop-count.invariant;
}

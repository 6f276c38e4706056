use Rattle.std.proofs.Common.{◌≡◌, ◌+◌, ◌-◌, ◌*◌, ◌/◌, ◌%◌, Contains, false, subst, sym, ap, ◌∙◌, arith}
use Rattle.std.proofs.lemmas.List.{get_or_read_under}
use Rattle.heap_model.specs.declared.block.Block.{Block}
use Rattle.line_memory.specs.Marks.{IsMarked}
use Rattle.line_memory.specs.Marked.{is_marked_within}
use Rattle.block_heap.specs.Held.{held_of}
use Rattle.block_heap.proofs.BlockMarkLemmas.{begins_mark, begins_marked, marked_is_held}
use Rattle.block_heap.proofs.held.HeldBlocks.find.Goals as goal
use Rattle.block_heap.proofs.held.HeldBlocks.find.Goals.{else-behind-eq0-via-then-behind-eq0+then-mark-len+else-index, else-behind-eq0-via-then-behind-eq0+else-mark-len, else-behind-eq0-via-else-behind-eq0}

pub returns-then-first_word-self-clause-none : goal.returns-then-first_word-self-clause-none
returns-then-first_word-self-clause-none c = λ b holds at. let from = (begins_mark c.args.self.now b holds).from in
    omega (arith, c.if-first_word-self.true)

pub returns-then-index-clause-some : goal.returns-then-index-clause-some
returns-then-index-clause-some c =
    let h = c.args.self.now in
    let m = (c.args.first_word - h.start) / 2 in
    let marked : IsMarked h.marks.items m =
    sym (get_or_read_under h.marks.items m c.len.result c.index.result.now false c.index.ensures c.if-mark-len.true (c.len.ensures
    ∙ h.marks.ok.0)) ∙ c.if-index.true in
    let at : h.start + 2 * m ≡ c.args.first_word = omega (arith, c.if-first_word-self.false, c.if-behind-eq0.true) in (
      subst (λ (b : Block). Contains (held_of h) b) (sym c.at.ensures) (marked_is_held h m c.args.first_word at marked),
      ap (λ (b : Block). b.first_word) c.at.ensures,
    )

pub returns-else-behind-eq0-clause-none : goal.returns-else-behind-eq0-clause-none
returns-else-behind-eq0-clause-none c = λ b holds at.
    let h = c.args.self.now in
    let m = (c.args.first_word - h.start) / 2 in
    let marked : IsMarked h.marks.items m = subst (λ word. IsMarked h.marks.items ((word - h.start) / 2)) at (begins_marked h b holds) in
    let within = is_marked_within h.marks.items m marked in
    elim c.else-behind-eq0.branch as (λ _. ⊥) [
      | else-behind-eq0-via-then-behind-eq0+then-mark-len+else-index w ↦
          let clear = sym (get_or_read_under h.marks.items m w.len.result w.index.result.now false w.index.ensures w.if-mark-len.true
          (w.len.ensures ∙ h.marks.ok.0)) ∙ w.if-index.false in
          cc
      | else-behind-eq0-via-then-behind-eq0+else-mark-len w ↦ omega (arith, within, w.if-mark-len.false, w.len.ensures, h.marks.ok.0)
      | else-behind-eq0-via-else-behind-eq0 w ↦
          let even : (c.args.first_word - h.start) % 2 ≡ 0 = subst (λ word. (word - h.start) % 2 ≡ 0) at (begins_mark h b holds).even in
          omega (arith, even, w.if-behind-eq0.false)
    ]

use Rattle.std.proofs.Common.{◌+◌, length, ap, sym, subst, ◌∙◌, arith}
use Rattle.std.proofs.lemmas.List.{length-set}
use Rattle.core_model.proofs.PlaceLemmas.{and_both}
use Rattle.seat_state.proofs.HeldSoFar.{all_held, block_there, within}
use Rattle.seat_state.proofs.PickedLemmas.{entry_of}
use Rattle.seat_index.proofs.HeldMarks.{MarksFirst, marks_more, marks_same}
use Rattle.seat_index.proofs.owned_opening.held_by.Goals.{then-is_small_of, else-is_small_of}
use Rattle.seat_index.proofs.owned_opening.held_by.Goals as goal

pub set-requires : goal.set-requires
set-requires c =
    let at = entry_of _ c.args.heap.now.held c.loop-i.i (record { first_word = 0; words = 0 }) c.held-block-items.ensures.held c.loop-i-test.true in
    let e = ap length c.held-block-items.ensures.held in let t = c.loop-i-test.true in
    let w = within c.args.heap.now.words c.args.heap.now.held c.args.owners.now.held c.held-block-items.ensures.ready c.requires _
    (block_there c.args.heap.now.held c.loop-i.i _ (omega arith) at)
    (and_both _ _ (sym c.is_small_of.ensures ∙ c.if-is_small_of.true)).0 in
    let l = c.loop-i.invariant.long in omega (arith, w, l)

pub loop-i-preserved : goal.loop-i-preserved
loop-i-preserved c =
    let heap = c.args.heap.now in let owners = c.args.owners.now.held in
    let at = entry_of _ heap.held c.loop-i.i (record { first_word = 0; words = 0 }) c.held-block-items.ensures.held c.loop-i-test.true in
    let e = ap length c.held-block-items.ensures.held in let f = ap length c.held-seats.ensures in let t = c.loop-i-test.true in let r = c.requires in
    let at_o = entry_of _ owners c.loop-i.i 0 c.held-seats.ensures (omega arith) in
    elim c.if-is_small_of.branch [
      | then-is_small_of w ↦
          let both = sym c.is_small_of.ensures ∙ w.if-is_small_of.true in
          let inside = within heap.words heap.held owners c.held-block-items.ensures.ready r _
          (block_there heap.held c.loop-i.i _ (omega arith) at) (and_both _ _ both).0 in
          let l = c.loop-i.invariant.long in
          record {
            long = ap length (w.marks-is ∙ w.set.ensures) ∙ length-set c.loop-i.marks _ _ ∙ l;
            each = subst (MarksFirst heap.held owners (c.loop-i.i + 1) c.args.seat) (sym (w.marks-is ∙ w.set.ensures))
                (marks_more heap.words heap.held owners c.held-block-items.ensures.ready r c.loop-i.i _ _
                (omega arith) at at_o c.args.seat c.loop-i.marks c.loop-i.invariant.each both (omega arith));
          }
      | else-is_small_of w ↦ record {
        long = ap length w.marks-is ∙ c.loop-i.invariant.long;
        each = subst (MarksFirst heap.held owners (c.loop-i.i + 1) c.args.seat) (sym w.marks-is)
            (marks_same heap.words heap.held owners c.held-block-items.ensures.ready r c.loop-i.i _ _
            (omega arith) at at_o c.args.seat c.loop-i.marks c.loop-i.invariant.each (sym c.is_small_of.ensures ∙ w.if-is_small_of.false));
      }
    ]

pub returns-clause-each : goal.returns-clause-each
returns-clause-each c = λ n. let l = ap length c.held-block-items.ensures.held in let f = c.loop-i-test.false in
    c.loop-i.invariant.each n
    ∙ sym (all_held c.args.heap.now.words c.args.heap.now.held c.args.owners.now.held c.held-block-items.ensures.ready c.requires c.loop-i.i
    (omega arith) c.args.seat n)

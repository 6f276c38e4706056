use Rattle.std.proofs.Common.{ℕ, ◌+◌, ◌*◌, ◌<◌, List, Contains, subst, sym, arith, length}
use Rattle.heap_model.specs.declared.block.Block.{Block}
use Rattle.heap_seat.specs.Words.{MayHaveStored}
use Rattle.dict_model.specs.Nodes.{value_words}
use Rattle.dict_requests.specs.Nodes.{Writes}
use Rattle.dict_requests.proofs.NodeLemmas.{within_more, writing_more}
use Rattle.dict_requests.proofs.node.write_value.Goals as goal

pub returns-in_err-write_word-clause-within : goal.returns-in_err-write_word-clause-within
returns-in_err-write_word-clause-within g c =
    let view = g.H.HeapSeat.view in
    let u = view c.loop-index.seat in
    let w = view c.write_word.new.seat in
    let i = c.loop-index.index in
    let held : Contains u.held c.args.node = subst (λ (bs : List Block). Contains bs c.args.node)
    (sym c.loop-index.invariant.writing.within.held) c.requires.held in
    let less : i < value_words (length c.args.value.now) = omega arith in
    let may = subst (λ (x : ℕ). MayHaveStored (c.args.node.first_word + (3 + i)) x u w) c.value_word.ensures c.write_word.ensures.crash in
    within_more c.args.node c.args.value.now i (view c.args.seat.now) u w held (omega arith) may (2 * i)
    (2 * value_words (length c.args.value.now)) (omega arith)
    c.loop-index.invariant.writing.within c.write_word.ensures.calls c.write_word.ensures.refusals

pub loop-index-preserved : goal.loop-index-preserved
loop-index-preserved g c =
    let view = g.H.HeapSeat.view in
    let u = view c.loop-index.seat in
    let w = view c.write_word.new.seat in
    let i = c.loop-index.index in
    let held : Contains u.held c.args.node = subst (λ (bs : List Block). Contains bs c.args.node)
    (sym c.loop-index.invariant.writing.within.held) c.requires.held in
    let less : i < value_words (length c.args.value.now) = omega arith in
    let may = subst (λ (x : ℕ). MayHaveStored (c.args.node.first_word + (3 + i)) x u w) c.value_word.ensures c.write_word.ensures.crash in
    let write = subst (λ (x : ℕ). Writes (c.args.node.first_word + (3 + i)) x u w) c.value_word.ensures c.in_ok-write_word.ensures.ok in
    record {
      writing = writing_more c.args.node c.args.value.now i (view c.args.seat.now) u w held (omega arith) may c.loop-index.invariant.writing write
          c.write_word.ensures.calls c.write_word.ensures.refusals;
      kept = g.met.H.HeapSeat.keeps_row c.args.seat.now c.loop-index.seat c.write_word.new.seat c.loop-index.invariant.kept c.write_word.ensures.kept;
    }

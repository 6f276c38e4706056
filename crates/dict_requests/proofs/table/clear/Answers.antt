use Rattle.std.proofs.Common.{List, Contains, subst, sym, arith}
use Rattle.heap_model.specs.declared.block.Block.{Block}
use Rattle.dict_requests.proofs.NodeLemmas.{clear_more, clearing_more}
use Rattle.dict_requests.proofs.table.clear.Goals as goal

pub returns-in_err-write_word-clause-within : goal.returns-in_err-write_word-clause-within
returns-in_err-write_word-clause-within g c =
    let view = g.H.HeapSeat.view in
    let u = view c.loop-bucket.seat in
    let w = view c.write_word.new.seat in
    let held : Contains u.held c.args.table = subst (λ (bs : List Block). Contains bs c.args.table)
    (sym c.loop-bucket.invariant.clearing.within.held) c.requires.held in
    clear_more c.args.table c.loop-bucket.bucket (view c.args.seat.now) u w held (omega arith) c.write_word.ensures.crash 256
    (omega arith) c.loop-bucket.invariant.clearing
    c.write_word.ensures.calls c.write_word.ensures.refusals

pub loop-bucket-preserved : goal.loop-bucket-preserved
loop-bucket-preserved g c =
    let view = g.H.HeapSeat.view in
    let u = view c.loop-bucket.seat in
    let w = view c.write_word.new.seat in
    let held : Contains u.held c.args.table = subst (λ (bs : List Block). Contains bs c.args.table)
    (sym c.loop-bucket.invariant.clearing.within.held) c.requires.held in
    record {
      clearing = clearing_more c.args.table c.loop-bucket.bucket (view c.args.seat.now) u w held
          (omega arith) c.write_word.ensures.crash c.loop-bucket.invariant.clearing c.in_ok-write_word.ensures.ok
          c.write_word.ensures.calls c.write_word.ensures.refusals;
      kept = g.met.H.HeapSeat.keeps_row c.args.seat.now c.loop-bucket.seat c.write_word.new.seat c.loop-bucket.invariant.kept c.write_word.ensures.kept;
    }

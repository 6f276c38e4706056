use Rattle.std.proofs.Common.{arith}
use Rattle.dict_requests.proofs.QuietLemmas.{quiet_call}
use Rattle.dict_requests.proofs.ReadLemmas.{reading_more}
use Rattle.dict_requests.proofs.reading.read_words.Goals as goal

pub loop-index-preserved : goal.loop-index-preserved
loop-index-preserved g c =
    let view = g.H.HeapSeat.view in
    let u = view c.loop-index.seat in
    let w = view c.load.new.self in
    record {
      reading = reading_more c.args.node c.loop-index.index c.in_ok-word.word c.args.out.now c.loop-index.out c.put_word.new.out
          (view c.args.seat.now) u w c.requires.held
          (omega arith) (omega arith) c.loop-index.invariant.reading c.in_ok-word.ensures.ok
          (quiet_call u w c.load.ensures.unchanged c.load.ensures.counted)
          c.put_word.ensures.bytes c.put_word.ensures.same;
      kept = g.met.H.HeapSeat.keeps_row c.args.seat.now c.loop-index.seat c.load.new.self c.loop-index.invariant.kept c.load.ensures.kept;
    }

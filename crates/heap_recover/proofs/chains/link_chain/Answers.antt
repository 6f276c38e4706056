use Rattle.std.proofs.Common.{◌≡◌, ◌-◌, suc, length, slice_index, subst, arith}
use Rattle.heap_recover.proofs.WritingLemmas.{AreWritten, written_chain}
use Rattle.heap_recover.proofs.chains.link_chain.Goals as goal

pub returns : goal.returns
returns c =
    let end : c.loop-i.i - 1 ≡ length c.args.chain.now - 1 = omega arith in
    record {
      chained = written_chain c.args.words.now c.loop-i.words c.args.chain.now
          (subst (λ n. AreWritten (slice_index c.args.chain.now) (λ j. slice_index c.args.chain.now (suc j)) c.args.words.now c.loop-i.words n)
          end c.loop-i.invariant.1);
    }

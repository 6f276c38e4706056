use Rattle.std.proofs.Common.{ap, arith, ◌+◌, ◌∙◌}
use Rattle.std.specs.Slots.{slots_items}
use Rattle.heap_table.proofs.ClosingLemmas.{one_word_more}
use Rattle.heap_table.proofs.closing.part.Goals as goal

pub loop-i-preserved : goal.loop-i-preserved
loop-i-preserved c = record {
  words = one_word_more (slots_items c.args.closed.now.words) c.loop-i.words.items c.push_reserved.new.self.items c.args.from c.loop-i.i
      c.word.result c.word.ensures
      c.loop-i.invariant.words c.push_reserved.ensures.items;
  count = c.push_reserved.ensures.len ∙ ap (λ n. n + 1) c.loop-i.invariant.count;
  room = let same = c.push_reserved.ensures.capacity in let room = c.loop-i.invariant.room in omega arith;
}

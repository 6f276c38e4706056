use Rattle.heap_model.specs.Geometry.{start_word}
use Rattle.heap_model.specs.Sizes.{blocks_of, words_of_class}
use Rattle.block_heap.proofs.RefillLemmas.{cache_set, number_set}
use Rattle.block_heap.proofs.arena.Arena.cut.Goals as goal

pub returns-clause-ok : goal.returns-clause-ok
returns-clause-ok g c =
    let a = c.args.self.now in
    record {
      divided = c.in_ok-divide.ensures.ok;
      caches = cache_set a.caches.items c.args.class.number c.start.result c.blocks_of.result (start_word a.geometry.capacity c.args.d)
          (blocks_of c.args.class.number)
          c.start.ensures c.blocks_of.ensures;
      start = c.divide-2.ensures.start;
      sizes = number_set a.held.words.items c.divide-2.new.self.words.items c.args.d c.block_words.result (words_of_class c.args.class.number)
          c.divide-2.ensures.words
          c.block_words.ensures.words;
    }

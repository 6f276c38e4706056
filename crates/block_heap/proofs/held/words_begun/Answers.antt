use Rattle.block_heap.proofs.OpeningLemmas.{begun_class, begun_none}
use Rattle.block_heap.proofs.held.words_begun.Goals as goal

pub returns-in-Class : goal.returns-in-Class
returns-in-Class c = begun_class c.args.info c.in-Class.class.number c.block_words.result c.in-Class.ensures.0 c.in-Class.ensures.1
    c.block_words.ensures.words

pub returns-in_default-2 : goal.returns-in_default-2
returns-in_default-2 c = begun_none c.args.info c.in_default.ensures

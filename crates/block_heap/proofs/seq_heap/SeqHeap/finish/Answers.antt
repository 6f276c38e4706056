use Rattle.std.proofs.Common.{ap, ◌∙◌}
use Rattle.line_memory.specs.ClosedWords.{volatile_words, durable_words}
use Rattle.block_heap.specs.Laws.{named_law}
use Rattle.block_heap.specs.SeqState.{SeqState}
use Rattle.block_heap.proofs.ImageLemmas.{finished_names, finished_crash, finished_closed}
use Rattle.block_heap.proofs.seq_heap.SeqHeap.finish.Goals as goal

pub returns-clause-named : goal.returns-clause-named
returns-clause-named g c = named_law c.args.self

pub returns-clause-mixed : goal.returns-clause-mixed
returns-clause-mixed g c =
    finished_names c.args.self (volatile_words c.finish.result) (durable_words c.finish.result)
    (c.finish.ensures.volatile ∙ ap (λ (s : SeqState). s.parts.words.volatile) c.self.view_is)
    (c.finish.ensures.durable ∙ ap (λ (s : SeqState). s.parts.words.durable) c.self.view_is)

pub returns-clause-crashed : goal.returns-clause-crashed
returns-clause-crashed g c =
    finished_crash c.args.self (volatile_words c.finish.result) (durable_words c.finish.result)
    (c.finish.ensures.volatile ∙ ap (λ (s : SeqState). s.parts.words.volatile) c.self.view_is)
    (c.finish.ensures.durable ∙ ap (λ (s : SeqState). s.parts.words.durable) c.self.view_is)

pub returns-clause-closed : goal.returns-clause-closed
returns-clause-closed g c =
    finished_closed c.args.self (volatile_words c.finish.result) (durable_words c.finish.result)
    (c.finish.ensures.volatile ∙ ap (λ (s : SeqState). s.parts.words.volatile) c.self.view_is)
    (c.finish.ensures.durable ∙ ap (λ (s : SeqState). s.parts.words.durable) c.self.view_is)

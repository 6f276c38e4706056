use Rattle.heap_seat.proofs.CallerLemmas.{durable_then}
use Rattle.thread_cache.proofs.HandedWords.{word_comes}
use Rattle.thread_cache.proofs.laws.a_block_comes_as_it_went.Goals as goal

pub returns-clause-words : goal.returns-clause-words
returns-clause-words c = word_comes

pub returns-clause-durable : goal.returns-clause-durable
returns-clause-durable c = λ b contents v w word goes comes within durable. durable_then v w word
    (word_comes b contents v w word goes comes within) durable

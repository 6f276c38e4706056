-- The first words of requests, and how many words stand behind each.
use Rattle.std.specs.Prelude.{ℕ, List, codes}
use Rattle.trace_faults.specs.declared.verb.Verb.{Verb}
use Rattle.trace_faults.specs.declared.verb.Verb.TheVariants.{Put, Get, Del, Move}

-- the first word of a request
abbrev pub word_of : Verb → List ℕ
word_of Put = codes "put"
word_of Get = codes "get"
word_of Del = codes "del"
word_of Move = codes "move"

-- how many words stand behind it
abbrev pub words_taken : Verb → ℕ
words_taken Put = 2
words_taken Get = 1
words_taken Del = 1
words_taken Move = 2

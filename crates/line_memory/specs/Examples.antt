-- Worked examples of the definitions, by computation.
use Rattle.std.specs.Prelude.{◌≡◌, [], ◌∷◌, true, false, None, Some, refl}
use Rattle.line_memory.specs.View.{line_of}
use Rattle.line_memory.specs.Marks.{marked_words}
use Rattle.line_memory.specs.Steps.{early_word, durable_after}

-- line 0 has words 0 to 7
pub last_of_line : line_of 7 ≡ 0
last_of_line = refl

pub first_of_line : line_of 8 ≡ 1
first_of_line = refl

-- words 7, 9 and 3 were stored last, 7 the latest: an even number writes back none
pub even_number : early_word 2 (7 ∷ 9 ∷ 3 ∷ []) ≡ None
even_number = refl

pub latest_store : early_word 1 (7 ∷ 9 ∷ 3 ∷ []) ≡ Some 7
latest_store = refl

pub store_before : early_word 3 (7 ∷ 9 ∷ 3 ∷ []) ≡ Some 9
store_before = refl

-- there is no fourth store
pub no_such_store : early_word 7 (7 ∷ 9 ∷ 3 ∷ []) ≡ None
no_such_store = refl

-- 16 is 0 again
pub next_round : early_word 33 (7 ∷ 9 ∷ 3 ∷ []) ≡ Some 7
next_round = refl

-- word 1 alone is written back
pub one_word : durable_after 3 (0 ∷ 1 ∷ []) (50 ∷ 60 ∷ []) (5 ∷ 6 ∷ []) ≡ 5 ∷ 60 ∷ []
one_word = refl

pub marks_as_words : marked_words (true ∷ false ∷ true ∷ []) ≡ 0 ∷ 2 ∷ []
marks_as_words = refl

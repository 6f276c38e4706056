-- Worked examples by computation: the steps that make one image another.
use Rattle.std.specs.Prelude.{◌≡◌, ◌∷◌, [], cond, nat_eq, refl}
use Rattle.heap_model.specs.Image.{Image}
use Rattle.heap_recover.specs.InPlace.{changed_lines, differences, steps_between}
use Rattle.heap_recover.specs.InOrder.{store, write_back, steps_in}

-- an image of zeros
abbrev zeros : Image
zeros word = 0

-- words 1 and 7 of the first line are others, and word 16, the first of the third
abbrev three_others : Image
three_others word = cond (nat_eq word 1) 5 (cond (nat_eq word 7) 6 (cond (nat_eq word 16) 7 0))

words_that_differ : differences zeros three_others 1 ∷ differences zeros three_others 2 ∷ differences zeros three_others 24 ∷ [] ≡ 0 ∷ 1 ∷ 3 ∷ []
words_that_differ = refl

lines_that_differ : changed_lines zeros three_others 1 ∷ changed_lines zeros three_others 2 ∷ changed_lines zeros three_others 3 ∷ [] ≡ 1 ∷ 1 ∷ 2 ∷ []
lines_that_differ = refl

-- three stores, two write-backs and a fence; of the first two lines two stores and one write-back; of the same image the fence alone
steps : steps_between zeros three_others 24 ∷ steps_between zeros three_others 16 ∷ steps_between zeros zeros 24 ∷ [] ≡ 6 ∷ 4 ∷ 1 ∷ []
steps = refl

-- these steps, in their order: a line is written back behind its last store, and one without a store is left alone
steps_are : steps_in zeros three_others 3 ≡ store 1 5 ∷ store 7 6 ∷ write_back 0 ∷ store 16 7 ∷ write_back 2 ∷ []
steps_are = refl

-- Blocks counted by their size, in runs of blocks of one size.
use Rattle.std.specs.Prelude.{◌≡◌, ℕ, ◌==◌, List, [], ◌∷◌, cond, refl, sum_by}
use Rattle.heap_model.specs.declared.block.Block.{Block}
use Rattle.trace_text.specs.declared.sizes.SizeRun.{SizeRun}
use Rattle.trace_text.specs.Report.{count_of}

-- how many blocks of these runs have so many words
abbrev pub counted_in : ℕ → List SizeRun → ℕ
counted_in words runs = sum_by (λ run. cond (run.words == words) run.count 0) runs

-- the runs have as many blocks of each size as there are
abbrev pub CountAlike : List Block → List SizeRun → Type 0
CountAlike blocks runs = (words : ℕ) → counted_in words runs ≡ count_of words blocks

-- two runs of two words, and one of eight between them
abbrev runs : List SizeRun
runs = record { words = 2; count = 3 } ∷ record { words = 8; count = 1 } ∷ record { words = 2; count = 4 } ∷ []

seven_of_two_words : counted_in 2 runs ≡ 7
seven_of_two_words = refl

one_of_eight : counted_in 8 runs ≡ 1
one_of_eight = refl

none_of_four : counted_in 4 runs ≡ 0
none_of_four = refl

-- The words that a crash leaves at random, by another name of the capacity.
use Rattle.std.proofs.Common.{◌≡◌, ℕ, map, subst}
use Rattle.heap_model.specs.Image.{Image}
use Rattle.crash_image.specs.Crash.{GivesAll, transient_words}

pub at_capacity : {C : Type 0} (word_gives : C → ℕ → C → Type 0) (from to : C) (left : Image) (a b : ℕ) → a ≡ b
    → GivesAll word_gives from (map left (transient_words a)) to → GivesAll word_gives from (map left (transient_words b)) to
at_capacity word_gives from to left a b same given = subst (λ n. GivesAll word_gives from (map left (transient_words n)) to) same given

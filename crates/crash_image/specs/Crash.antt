-- Words of an image that differ at most in heads, anchors and links, and the numbers that a chance gives for these.
use Rattle.std.specs.Prelude.{◌≡◌, ℕ, zero, suc, ◌++◌, List, [], ◌∷◌, length, slice_index}
use Rattle.heap_model.specs.Geometry.{lists, head_word, anchor_word, link_word}
use Rattle.heap_model.specs.Durability.{IsTransient}

-- words as many as before, and the same but for transient ones
pub record IsLeft (capacity : ℕ) (old new : List ℕ) : Type 0 where
  pub long : length new ≡ length old
  pub others : (word : ℕ) → (IsTransient capacity word → ⊥) → slice_index new word ≡ slice_index old word

-- the heads of the lists below n, in their order
abbrev pub heads_below : ℕ → List ℕ
heads_below zero = []
heads_below (suc n) = heads_below n ++ (head_word n ∷ [])

-- the anchor and the link of each descriptor below n, in their order
abbrev pub descriptors_below : ℕ → List ℕ
descriptors_below zero = []
descriptors_below (suc d) = descriptors_below d ++ (anchor_word d ∷ link_word d ∷ [])

-- the words of which a crash promises nothing, in their order
abbrev pub transient_words : ℕ → List ℕ
transient_words capacity = heads_below lists ++ descriptors_below capacity

-- a chance gave these numbers, one after the other
abbrev pub GivesAll : {C : Type 0} → (C → ℕ → C → Type 0) → C → List ℕ → C → Type 0
GivesAll gives from [] to = from ≡ to
GivesAll {C} gives from (number ∷ numbers) to = (next : C) × gives from number next × GivesAll gives next numbers to

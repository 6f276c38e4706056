-- The words of an empty image, as they are filled in.
use Rattle.std.proofs.Common.{◌≡◌, ℕ, suc, ◌-◌, List, slice_set, replicate, refl, ap, ◌∙◌, arith}
use Rattle.heap_model.specs.Geometry.{magic, version, clean, old_image_words}
use Rattle.region_header.specs.Empty.{words_before_kinds}

-- the first four words of a list set to those of a header
abbrev with_header : ℕ → List ℕ → List ℕ
with_header capacity xs = slice_set (slice_set (slice_set (slice_set xs 0 magic) 1 version) 2 capacity) 3 clean

zeros_with_header : (capacity count : ℕ) → count ≡ old_image_words capacity → with_header capacity (replicate count 0) ≡ words_before_kinds capacity
unfolding words_before_kinds
zeros_with_header capacity count is = let four : count ≡ suc (suc (suc (suc (old_image_words capacity - 4)))) = omega arith in rw four refl

pub filled_before : (capacity : ℕ) (zeros : List ℕ) → zeros ≡ replicate (old_image_words capacity) 0
    → with_header capacity zeros ≡ words_before_kinds capacity
filled_before capacity zeros are = ap (with_header capacity) are ∙ zeros_with_header capacity (old_image_words capacity) refl

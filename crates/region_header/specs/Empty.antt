-- The words of an empty image, and that nothing is found in it.
use Rattle.std.specs.Prelude.{◌≡◌, ℕ, ◌-◌, List, [], ◌∷◌, ◌++◌, replicate, take, drop, refl}
use Rattle.heap_model.specs.declared.block.Block.{Block}
use Rattle.heap_model.specs.Geometry.{magic, version, clean, old_image_words}
use Rattle.heap_model.specs.Image.{Image}
use Rattle.heap_model.specs.Header.{empty_words, first_kinds}
use Rattle.heap_model.specs.Reach.{Links, IsReachedIn, IsOutsideIn}

-- the words of an empty image up to the kinds of its roots: a clean header, and 0 in every other word
unfoldable pub words_before_kinds : ℕ → List ℕ
words_before_kinds capacity = magic ∷ version ∷ capacity ∷ clean ∷ replicate (old_image_words capacity - 4) 0

-- the words of an empty image whose roots have these kinds
abbrev pub empty_words_with : ℕ → List ℕ → List ℕ
empty_words_with capacity kinds = words_before_kinds capacity ++ kinds

-- recovery of the image by any filter finds nothing: its roots reach no block, and no word that a trace looks at leads outside
pub record ReachesNothing (image : Image) : Type 0 where
  pub no_block : (links : Links) (b : Block) → IsReachedIn image links b → ⊥
  pub none_outside : (links : Links) (at : ℕ) → IsOutsideIn image links at → ⊥

-- with the first kinds these are the words of the program's empty image
pub with_first_kinds : (capacity : ℕ) → empty_words_with capacity first_kinds ≡ empty_words capacity
unfolding words_before_kinds empty_words
with_first_kinds capacity = refl

-- worked examples, of one superblock: the header, and the words behind the superblock
front_of_one : take 5 (empty_words_with 1 (2 ∷ 0 ∷ 5 ∷ [])) ≡ 0x52414C4C4F433031 ∷ 2 ∷ 1 ∷ 1 ∷ 0 ∷ []
unfolding words_before_kinds
front_of_one = refl

end_of_one : drop 9263 (empty_words_with 1 (2 ∷ 0 ∷ 5 ∷ [])) ≡ 0 ∷ 2 ∷ 0 ∷ 5 ∷ []
unfolding words_before_kinds
end_of_one = refl

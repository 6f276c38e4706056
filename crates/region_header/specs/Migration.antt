-- An image of the old version as one of the new.
use Rattle.std.specs.Prelude.{◌≡◌, ◌≢◌, ℕ, ◌<◌, List, [], ◌∷◌, ◌++◌, slice_index, slice_set, cond, refl}
use Rattle.heap_model.specs.Geometry.{version, version_word, old_image_words}
use Rattle.heap_model.specs.Image.{Image}
use Rattle.heap_model.specs.Header.{capacity_of, state_of, used_of, is_old}

-- the words of an image of the old version as one of the new: the same words under the new version, and the kinds of the roots behind them
abbrev pub migrated : List ℕ → List ℕ → List ℕ
migrated words kinds = slice_set words version_word version ++ kinds

-- the words of an image in the new version: as they are, or migrated with these kinds
abbrev pub current_words : List ℕ → List ℕ → List ℕ
current_words words kinds = cond (is_old (slice_index words)) (migrated words kinds) words

-- the images have the same words, but the version and what stands behind the last superblock
pub record HasSameHeap (old new : Image) : Type 0 where
  pub capacity_is : capacity_of new ≡ capacity_of old
  pub state_is : state_of new ≡ state_of old
  pub used_is : used_of new ≡ used_of old
  pub words_are : (word : ℕ) → word ≢ version_word → word < old_image_words (capacity_of old) → new word ≡ old word

-- worked examples: five words and two kinds
migrated_five : migrated (7 ∷ 1 ∷ 4 ∷ 1 ∷ 9 ∷ []) (1 ∷ 0 ∷ []) ≡ 7 ∷ 2 ∷ 4 ∷ 1 ∷ 9 ∷ 1 ∷ 0 ∷ []
migrated_five = refl

current_of_old : current_words (7 ∷ 1 ∷ 4 ∷ 1 ∷ 9 ∷ []) (1 ∷ 0 ∷ []) ≡ 7 ∷ 2 ∷ 4 ∷ 1 ∷ 9 ∷ 1 ∷ 0 ∷ []
current_of_old = refl

current_of_new : current_words (7 ∷ 2 ∷ 4 ∷ 1 ∷ 9 ∷ 5 ∷ 6 ∷ []) (1 ∷ 0 ∷ []) ≡ 7 ∷ 2 ∷ 4 ∷ 1 ∷ 9 ∷ 5 ∷ 6 ∷ []
current_of_new = refl

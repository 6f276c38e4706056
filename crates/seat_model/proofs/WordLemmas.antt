-- What a close leaves of a sound state, word by word.
use Rattle.std.proofs.Common.{◌≡◌, ◌≢◌, ℕ, ◌<◌, ◌≤◌, inl, true, nat_lt, nat_le, List, get_or, refl, sym, ◌∙◌, lt-ltb, le-leb, arith}
use Rattle.heap_model.specs.Durability.{IsClosedImage}
use Rattle.heap_model.specs.Geometry.{image_words, info_word, anchor_word, link_word, head_word, lists, start_word, superblocks_end, state_word}
use Rattle.heap_model.specs.Header.{capacity_of, used_of}
use Rattle.heap_model.specs.Image.{Image}
use Rattle.core_model.specs.Cells.{Cell, used_cell, head_cell, info_cell, anchor_cell, link_cell, data_cell, is_cell, index_of}
use Rattle.core_model.specs.Held.{volatile_image}
use Rattle.core_model.specs.Memory.{Memory, used, head, info, anchor, link, next, memory_of}
use Rattle.core_model.specs.Sound.{Sound}
use Rattle.core_model.specs.View.{Setup, View}
use Rattle.core_model.proofs.PlaceLemmas.{and_is, pick}

module _ (k : Setup) (words : List ℕ) (views : List View) (sound : Sound k words views) (image : Image)
    (closed : IsClosedImage (volatile_image k.capacity words) image) where
  abbrev pub m : Memory
  m = memory_of k.capacity words

  at_word : (word : ℕ) → word < image_words k.capacity → word ≢ state_word → image word ≡ get_or words word 0
  at_word word inside other = closed.others word other ∙ pick (nat_lt word (image_words k.capacity)) _ _ (lt-ltb word (image_words k.capacity) inside)

  at_cell : (cell : Cell) → is_cell k.capacity cell ≡ true → index_of cell < image_words k.capacity → index_of cell ≢ state_word
      → image (index_of cell) ≡ m.volatile cell
  at_cell cell is inside other = at_word (index_of cell) inside other ∙ sym (pick (is_cell k.capacity cell) _ _ is)

  pub capacity_is : capacity_of image ≡ k.capacity
  capacity_is = at_word 2 (omega arith) (λ e. omega (arith, e)) ∙ (sound.fixed 2 (inl (omega arith))).0 ∙ sound.capacity

  pub used_is : used_of image ≡ used m
  used_is = at_cell used_cell refl (omega arith) (λ e. omega (arith, e))

  pub head_is : (list : ℕ) → list < lists → image (head_word list) ≡ head m list
  head_is list less = at_cell (head_cell list) (lt-ltb list lists less) (omega arith) (λ e. omega (arith, e))

  pub info_is : (d : ℕ) → d < k.capacity → image (info_word d) ≡ info m d
  info_is d less = at_cell (info_cell d) (lt-ltb d k.capacity less) (omega arith) (λ e. omega (arith, e))

  pub anchor_is : (d : ℕ) → d < k.capacity → image (anchor_word d) ≡ anchor m d
  anchor_is d less = at_cell (anchor_cell d) (lt-ltb d k.capacity less) (omega arith) (λ e. omega (arith, e))

  pub link_is : (d : ℕ) → d < k.capacity → image (link_word d) ≡ link m d
  link_is d less = at_cell (link_cell d) (lt-ltb d k.capacity less) (omega arith) (λ e. omega (arith, e))

  pub data_is : (word : ℕ) → start_word k.capacity 0 ≤ word → word < superblocks_end k.capacity → image word ≡ next m word
  data_is word low high = at_cell (data_cell word)
      (and_is (nat_le (start_word k.capacity 0) word) (nat_lt word (superblocks_end k.capacity)) (le-leb (start_word k.capacity 0) word low)
      (lt-ltb word (superblocks_end k.capacity) high))
      (omega arith) (λ e. omega (arith, e))

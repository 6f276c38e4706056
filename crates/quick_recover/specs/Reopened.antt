-- What an orderly image is left as when it is opened by its anchors.
use Rattle.std.specs.Prelude.{◌≡◌, ℕ, ◌<◌, ◌≤◌, List, length, slice_index, Contains}
use Rattle.heap_model.specs.declared.block.Block.{Block}
use Rattle.heap_model.specs.Geometry.{lists, head_word, info_word, anchor_word, link_word, start_word, state_word, dirty}
use Rattle.heap_model.specs.Image.{Image}
use Rattle.heap_model.specs.Header.{capacity_of}
use Rattle.heap_model.specs.Sizes.{IsClass}
use Rattle.heap_model.specs.Words.{full_anchor}
use Rattle.heap_model.specs.Blocks.{layout_of}
use Rattle.heap_model.specs.Recovered.{IsFreeSuperblock, AreAscending}
use Rattle.heap_model.specs.Recovery.{IsListed, IsPartial, IsFullyKept, IsInLarge, first_number, IsKeptWord, HasInfoAndAnchor}
use Rattle.heap_model.specs.Chains.{Follows}
use Rattle.heap_recover.specs.declared.answer.Was.TheVariants.{Clean}
use Rattle.heap_recover.specs.declared.answer.Recovered.{Recovered}

-- as recovery leaves it (`IsRecovered`), but that partial superblocks keep their anchors, and so their chains: no word of a superblock changes
pub record IsReopened (old new : Image) (kept : Block → Type 0) : Type 0 where
  pub descriptors : ℕ → List ℕ
  pub listed : (list : ℕ) → list < lists → AreAscending (λ d. d) (IsListed (layout_of old) kept list) (descriptors list)
  pub state : new state_word ≡ dirty
  pub same : (word : ℕ) → IsKeptWord (capacity_of old) word → new word ≡ old word
  pub heads : (list : ℕ) → list < lists → new (head_word list) ≡ first_number (descriptors list)
  pub links : (list : ℕ) → list < lists
      → Follows (λ d. new (link_word d)) (capacity_of old) (first_number (descriptors list)) (descriptors list)
  pub unlisted : (d : ℕ) → d < capacity_of old → ((list : ℕ) → list < lists → Contains (descriptors list) d → ⊥) → new (link_word d) ≡ 0
  pub free : (d : ℕ) → IsFreeSuperblock (layout_of old) kept d → HasInfoAndAnchor new d 0 0
  pub partial : (class d : ℕ) → IsClass class → IsPartial (layout_of old) kept class d → HasInfoAndAnchor new d class (old (anchor_word d))
  pub full : (class d : ℕ) → IsClass class → IsFullyKept (layout_of old) kept class d → HasInfoAndAnchor new d class full_anchor
  pub in_large : (d : ℕ) → IsInLarge (layout_of old) kept d → HasInfoAndAnchor new d (old (info_word d)) full_anchor
  pub untaken : (d : ℕ) → (layout_of old).used ≤ d → d < capacity_of old → HasInfoAndAnchor new d 0 0
  pub inside : (word : ℕ) → start_word (capacity_of old) 0 ≤ word → new word ≡ old word

-- the heap that the words are opened as where these blocks are kept
pub record IsReopenedAs (words : List ℕ) (kept : Block → Type 0) (answer : Recovered) : Type 0 where
  pub held : AreAscending (λ (b : Block). b.first_word) kept answer.heap.held
  pub free : AreAscending (λ d. d) (IsFreeSuperblock (layout_of (slice_index words)) kept) answer.free.items
  pub was : answer.was ≡ Clean
  pub long : length answer.heap.words ≡ length words
  pub reopened : IsReopened (slice_index words) (slice_index answer.heap.words) kept

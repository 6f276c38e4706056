-- The two values of a word, what loads see and what is durable, and the images that they can leave (x86's write-back
-- and fence, weakened to words). All are readings that are 0 beyond their words.
use Rattle.std.specs.Prelude.{◌≡◌, ◌≢◌, ℕ, ◌*◌, ◌<◌, ◌⊎◌}
use Rattle.heap_model.specs.declared.block.Block.{Block}
use Rattle.heap_model.specs.Geometry.{lists, clean, dirty, state_word, head_word, anchor_word, link_word}
use Rattle.heap_model.specs.Header.{capacity_of}
use Rattle.heap_model.specs.Blocks.{Names}
use Rattle.heap_model.specs.Image.{Image}

-- each word has its volatile or its durable value
pub record Mixes (volatile durable image : Image) : Type 0 where
  pub each : (word : ℕ) → (image word ≡ volatile word) ⊎ (image word ≡ durable word)

-- a word that a crash leaves with any value: a list head, an anchor, or a list link
pub data IsTransient (capacity : ℕ) : ℕ → Type 0 where
  is_head : (list word : ℕ) → list < lists → word ≡ head_word list → IsTransient capacity word
  is_anchor : (d word : ℕ) → d < capacity → word ≡ anchor_word d → IsTransient capacity word
  is_link : (d word : ℕ) → d < capacity → word ≡ link_word d → IsTransient capacity word

-- a crash leaves the durable words, but any transient ones, and a dirty state
pub record IsCrashImage (durable image : Image) : Type 0 where
  pub state : image state_word ≡ dirty
  pub others : (word : ℕ) → word ≢ state_word → (IsTransient (capacity_of durable) word → ⊥) → image word ≡ durable word

-- a close leaves the volatile words and a clean state
pub record IsClosedImage (volatile image : Image) : Type 0 where
  pub state : image state_word ≡ clean
  pub others : (word : ℕ) → word ≢ state_word → image word ≡ volatile word

-- each mixed image names each held block at its first word, with its size
pub record NamesAreDurable (volatile durable : Image) (held : Block → Type 0) : Type 0 where
  pub each : (image : Image) → Mixes volatile durable image → (b : Block) → held b → Names image (8 * b.first_word) b

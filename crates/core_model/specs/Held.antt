-- The blocks that seats hold, and that every mixed image of the shared words names each of them.
use Rattle.std.specs.Prelude.{◌≡◌, ◌≢◌, ℕ, ◌+◌, ◌*◌, ◌<◌, ◌≤◌, ◌⊎◌, cond, nat_lt, List, get_or, length}
use Rattle.heap_model.specs.declared.block.Block.{Block}
use Rattle.heap_model.specs.Geometry.{start_word, superblock_words, superblocks_end, image_words}
use Rattle.heap_model.specs.Sizes.{words_of_class}
use Rattle.heap_model.specs.Blocks.{AreOneOrApart}
use Rattle.heap_model.specs.Counting.{times, total}
use Rattle.heap_model.specs.Image.{Image}
use Rattle.heap_model.specs.Durability.{NamesAreDurable}
use Rattle.core_model.specs.View.{View, of_class, times_block, times_large}
use Rattle.core_model.specs.Effects.{span_count}

-- a block that the seat holds
pub data IsHeld (v : View) : Block → Type 0 where
  a_small : (class b : ℕ) → 0 < times b (of_class v.small class) → IsHeld v (record { first_word = b; words = words_of_class class })
  a_large : (d n : ℕ) → 0 < n → span_count d v.large ≡ n → IsHeld v (record {
    first_word = start_word v.setup.capacity d;
    words = superblock_words * n;
  })

-- a block that some seat holds
pub record IsHeldBy (views : List View) (b : Block) : Type 0 where
  pub seat : ℕ
  pub view : View
  pub below : seat < length views
  pub at : get_or views seat view ≡ view
  pub holds : IsHeld view b

-- the blocks have no word in common
abbrev pub AreApart : Block → Block → Type 0
AreApart a b = (a.first_word + a.words ≤ b.first_word) ⊎ (b.first_word + b.words ≤ a.first_word)

-- no block is held twice: each stands once in the lists of one seat; blocks of two seats have no word in common, and
-- those of one seat are one or have none; and each lies in the superblocks of the image
pub record AreHeldOnce (capacity : ℕ) (views : List View) : Type 0 where
  pub small : (b : ℕ) → total (times_block b) views ≤ 1
  pub large : (d : ℕ) → total (λ (v : View). times_large d v.large) views ≤ 1
  pub by_two : (i j : ℕ) (v u : View) → j ≢ i → i < length views → get_or views i v ≡ v → j < length views → get_or views j u ≡ u
      → (a b : Block) → IsHeld v a → IsHeld u b → AreApart a b
  pub by_any : (a b : Block) → IsHeldBy views a → IsHeldBy views b → AreOneOrApart a b
  pub inside : (b : Block) → IsHeldBy views b → (start_word capacity 0 ≤ b.first_word) × (b.first_word + b.words ≤ superblocks_end capacity)

-- the volatile words of the image
abbrev pub volatile_image : ℕ → List ℕ → Image
volatile_image capacity words word = cond (nat_lt word (image_words capacity)) (get_or words word 0) 0

-- the durable words of the image
abbrev pub durable_image : ℕ → List ℕ → Image
durable_image capacity words word = cond (nat_lt word (image_words capacity)) (get_or words (image_words capacity + word) 0) 0

-- each mixture of volatile and durable words names each held block, at its first word and with its size
abbrev pub IsFirm : ℕ → List ℕ → List View → Type 0
IsFirm capacity words views = NamesAreDurable (volatile_image capacity words) (durable_image capacity words) (IsHeldBy views)

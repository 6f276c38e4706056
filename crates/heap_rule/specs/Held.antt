-- Where a held block lies, and who holds it.
use Rattle.std.specs.Prelude.{◌≡◌, ◌+◌, ◌<◌, ◌≤◌, ◌⊎◌, ℕ, List, get_or, length}
use Rattle.heap_model.specs.declared.block.Block.{Block}
use Rattle.heap_model.specs.Geometry.{start_word}
use Rattle.core_model.specs.Carriers.{IsCarrier}
use Rattle.core_model.specs.Held.{IsHeld}
use Rattle.core_model.specs.View.{View}

-- the block has words, and lies in superblocks of the image below the mark
pub record IsPlacedBelow (capacity mark : ℕ) (b : Block) : Type 0 where
  pub some : 1 ≤ b.words
  pub from : start_word capacity 0 ≤ b.first_word
  pub until : b.first_word + b.words ≤ start_word capacity mark
  pub low : mark ≤ capacity

-- one seat or one carrier holds the block, and no other does
pub record IsHeldByOne (views : List View) (b : Block) : Type 0 where
  pub holder : ℕ
  pub view : View
  pub below : holder < length views
  pub at : get_or views holder view ≡ view
  pub holds : IsHeld view b
  pub is : (view.carries ≡ 0) ⊎ IsCarrier view
  pub alone : (j : ℕ) (u : View) → j < length views → get_or views j u ≡ u → IsHeld u b → j ≡ holder

-- The text on an image that is recovered with no filter.
use Rattle.std.specs.Prelude.{◌≡◌, ℕ, Bool, List, []}
use Rattle.heap_model.specs.declared.block.Block.{Block}
use Rattle.heap_model.specs.Blocks.{layout_of}
use Rattle.heap_model.specs.Image.{Image}
use Rattle.heap_model.specs.Recovered.{IsFreeSuperblock, AreAscending}
use Rattle.heap_model.specs.Recovery.{IsRecovered}
use Rattle.heap_recover.specs.declared.answer.Recovered.{Recovered}
use Rattle.image_run.specs.Reporting.{text_of, shown_text}
use Rattle.mixed_trace.specs.Conservative.{IsReachedByWords}

-- the text on a heap that was opened, of whose keys nothing is told
pub record IsHeapText (recovered : Recovered) (with_map : Bool) (text : List ℕ) : Type 0 where
  pub keys : List ℕ
  pub none : keys ≡ []
  pub is : text ≡ text_of recovered keys with_map

-- the text on an image once it is recovered so that exactly the blocks are held that its roots and every word from there reach
pub record TellsByWords (image : Image) (with_map : Bool) (text : List ℕ) : Type 0 where
  pub held : List Block
  pub free : List ℕ
  pub words : Image
  pub held_are : AreAscending (λ (b : Block). b.first_word) (IsReachedByWords image) held
  pub free_are : AreAscending (λ d. d) (IsFreeSuperblock (layout_of image) (IsReachedByWords image)) free
  pub words_are : IsRecovered image words (IsReachedByWords image)
  pub text_is : text ≡ shown_text image with_map [] held free words

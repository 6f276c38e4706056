-- The words that a crash leaves at random.
use Rattle.std.specs.Prelude.{ℕ, map}
use Rattle.heap_model.specs.Image.{Image}
use Rattle.crash_image.specs.Crash.{GivesAll, transient_words}
use Rattle.tool_ports.specs.Chances.{ComesFrom}

-- last of all the chances gave words, which are the list heads, anchors and links of the image, in the order of word index
pub record IsScrambled {C One : Type 0} (chance_gives : C → ℕ → One → C → Type 0) (word_gives : C → ℕ → C → Type 0) (capacity : ℕ)
    (left : Image) (old new : C) : Type 0 where
  pub before : C
  pub asked : ComesFrom chance_gives word_gives old before
  pub drawn : GivesAll word_gives before (map left (transient_words capacity)) new

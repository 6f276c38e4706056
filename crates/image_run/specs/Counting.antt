-- The text on an image that is opened by its own anchors where it is orderly, and else recovered.
use Rattle.std.specs.Prelude.{◌≡◌, ℕ, ◌*◌, Bool, List, [], ◌++◌, codes, length, Some, slice_index}
use Rattle.heap_model.specs.declared.block.Block.{Block}
use Rattle.heap_model.specs.Blocks.{layout_of}
use Rattle.heap_model.specs.Image.{Image}
use Rattle.heap_model.specs.Recovered.{IsFreeSuperblock, AreAscending}
use Rattle.heap_model.specs.Recovery.{IsRecovered}
use Rattle.heap_at_rest.specs.Orderly.{IsOrderly, IsHeldByAnchors}
use Rattle.dict_model.specs.Links.{kind_count}
use Rattle.quick_recover.specs.declared.open.Path.{Path}
use Rattle.quick_recover.specs.declared.open.Path.TheVariants.{Quick as ByAnchors, Traced}
use Rattle.quick_recover.specs.declared.open.Quick.{Quick}
use Rattle.quick_recover.specs.Reopened.{IsReopened}
use Rattle.trace_text.specs.Report.{line_feed}
use Rattle.image_run.specs.Reporting.{IsKept, PointsOutside, shown_text}
use Rattle.image_run.specs.Conservative.{IsHeapText}

-- the image in these words tells by its own anchors what it holds, and its roots have kinds of the dictionary
abbrev pub IsOrderlyImage : List ℕ → Type 0
IsOrderlyImage words = IsOrderly (Some kind_count) (8 * length words) (slice_index words)

-- the line on the way by which an image was opened
abbrev pub way_line : Path → List ℕ
way_line ByAnchors = codes "quick" ++ line_feed
way_line Traced = codes "traced" ++ line_feed

-- the text on an image that was opened
pub record IsOpenedText (opened : Quick) (with_map : Bool) (text : List ℕ) : Type 0 where
  pub report : List ℕ
  pub is_report : IsHeapText opened.recovered with_map report
  pub is : text ≡ way_line opened.path ++ report

-- the text on an image that was opened this way, once exactly these blocks are held; `Leaves` says which words are left
pub record TellsHeld (way : Path) (image : Image) (kept : Block → Type 0) (Leaves : Image → Type 0) (with_map : Bool) (text : List ℕ) : Type 0 where
  pub held : List Block
  pub free : List ℕ
  pub words : Image
  pub held_are : AreAscending (λ (b : Block). b.first_word) kept held
  pub free_are : AreAscending (λ d. d) (IsFreeSuperblock (layout_of image) kept) free
  pub words_are : Leaves words
  pub text_is : text ≡ way_line way ++ shown_text image with_map [] held free words

-- the text on the image in these words: what its anchors hold where it is orderly, and else what its roots reach, none of which points outside
pub data TellsOpened (words : List ℕ) (with_map : Bool) (text : List ℕ) : Type 0 where
  by_anchors : IsOrderlyImage words
      → TellsHeld ByAnchors (slice_index words) (IsHeldByAnchors (slice_index words))
      (λ new. IsReopened (slice_index words) new (IsHeldByAnchors (slice_index words))) with_map text
      → TellsOpened words with_map text
  traced : ¬ (IsOrderlyImage words) → ((at : ℕ) → PointsOutside (slice_index words) at → ⊥)
      → TellsHeld Traced (slice_index words) (IsKept (slice_index words))
      (λ new. IsRecovered (slice_index words) new (IsKept (slice_index words))) with_map text
      → TellsOpened words with_map text

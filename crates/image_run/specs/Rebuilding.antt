-- What recovery of an image made in place puts and prints.
use Rattle.std.specs.Prelude.{◌≡◌, ◌≢◌, ◌⊎◌, ℕ, ◌*◌, ◌/◌, ◌<◌, ◌≤◌, Bool, true, false, List, ◌++◌, length, map, codes, Some, slice_index}
use Rattle.heap_model.specs.Geometry.{state_word, dirty}
use Rattle.heap_model.specs.Header.{capacity_of}
use Rattle.heap_model.specs.Image.{Image, bytes_of_words}
use Rattle.heap_model.specs.Durability.{IsCrashImage, IsTransient}
use Rattle.heap_model.specs.Recovery.{IsRecovered}
use Rattle.region_header.specs.Words.{AreWordsOf}
use Rattle.heap_recover.specs.InPlace.{steps_until, steps_between, RecoversAlike}
use Rattle.heap_recover.specs.InOrder.{steps_in, IsDoneBy, IsCutOffIn}
use Rattle.line_memory.specs.View.{opened}
use Rattle.line_memory.specs.Plain.{Gives, view_of, chance_of, DrawsBy}
use Rattle.line_memory.specs.declared.plain.PlainMemory.{PlainMemory}
use Rattle.dict_model.specs.Links.{dict_links, kind_count}
use Rattle.crash_image.specs.Crash.{GivesAll, transient_words}
use Rattle.trace_text.specs.Report.{line_feed}
use Rattle.image_run.specs.Reporting.{IsKept, TellsHeap}

-- How far recovery in place came that was stopped: from the word `at` on each is as it was, but the state, and those that a crash leaves
-- with any value. The budget has a step for each word below it that recovery changes, and for each of their lines but the last.
pub record ComesTo (image new : Image) (budget : ℕ) (left : List ℕ) : Type 0 where
  pub at : ℕ
  pub steps : steps_until image new at ≤ budget
  pub rest : (word : ℕ) → at ≤ word → word ≢ state_word → (IsTransient (capacity_of image) word → ⊥) → slice_index left word ≡ image word

-- The words that are left of an image of so many words, made the words of its recovery within a budget: all of them where that was
-- not stopped, and else each the old or the new one, but the state, and those that a crash leaves with any value. Recovery of them keeps
-- the same. It was stopped exactly where the budget has fewer steps than recovery takes.
pub record IsRebuilt (image : Image) (count budget : ℕ) (stopped : Bool) (left : List ℕ) : Type 0 where
  pub new : List ℕ
  pub recovered : IsRecovered image (slice_index new) (IsKept image)
  pub long : length left ≡ count
  pub alike : RecoversAlike (Some kind_count) (8 * count) image (slice_index left) dict_links
  pub state : slice_index left state_word ≡ dirty
  pub done : stopped ≡ false → left ≡ new
  pub within : stopped ≡ false → steps_between image (slice_index new) count ≤ budget
  pub cause : stopped ≡ true → budget < steps_between image (slice_index new) count
  pub comes : stopped ≡ true → ComesTo image (slice_index new) budget left
  pub others : (word : ℕ) → word ≢ state_word → (IsTransient (capacity_of image) word → ⊥)
      → (slice_index left word ≡ image word) ⊎ (slice_index left word ≡ slice_index new word)

-- the line that tells whether it was stopped
abbrev pub rebuilt_line : Bool → List ℕ
rebuilt_line true = codes "rebuild stopped" ++ line_feed
rebuilt_line false = codes "rebuild done" ++ line_feed

-- The words that are left of an image by the steps that make it its recovery. A new memory of its words took them in
-- their order, each with a number that this chance
-- gave then: all of them and a fence where that was not stopped, and what loads see is left. Else it took the first of
-- them, and the image is one that a crash leaves
-- of what is then durable.
pub record IsLeftBySteps {One : Type 0} (draw_gives : Gives One) (chance : One) (image : Image) (budget : ℕ) (stopped : Bool)
    (left : List ℕ) : Type 0 where
  pub words : List ℕ
  pub long : length words ≡ length left
  pub are_old : (word : ℕ) → slice_index words word ≡ image word
  pub new : Image
  pub recovered : IsRecovered image new (IsKept image)
  pub before : PlainMemory One
  pub is_opened : view_of before ≡ opened words budget
  pub has_chance : chance_of before ≡ chance
  pub after : PlainMemory One
  pub done : stopped ≡ false → IsDoneBy view_of (DrawsBy draw_gives) (steps_in image new (length words / 8)) before after
  pub seen : stopped ≡ false → left ≡ (view_of after).volatile
  pub cut_off : stopped ≡ true → (ticket : ℕ) × IsCutOffIn view_of (DrawsBy draw_gives) (steps_in image new (length words / 8)) ticket before after
  pub durable : stopped ≡ true → IsCrashImage (slice_index (view_of after).durable) (slice_index left)

-- One chance was asked for, by the number 0, and what is left is left with the numbers of that one. Where it was
-- stopped, the words were then taken that the crash leaves
-- at random.
pub record RebuildDraws {C One : Type 0} (chance_gives : C → ℕ → One → C → Type 0) (draw_gives : Gives One) (word_gives : C → ℕ → C → Type 0)
    (image : Image) (budget : ℕ) (stopped : Bool) (left : List ℕ) (old new : C) : Type 0 where
  pub chance : One
  pub dealt : C
  pub given : chance_gives old 0 chance dealt
  pub by_steps : IsLeftBySteps draw_gives chance image budget stopped left
  pub then_nothing : stopped ≡ false → new ≡ dealt
  pub then_words : stopped ≡ true → GivesAll word_gives dealt (map (slice_index left) (transient_words (capacity_of image))) new

-- The chances of a rebuild that puts these bytes and prints this text began anew by the seed, first of all and once.
-- Then it drew its numbers from them.
pub record RebuildAsks {C One : Type 0} (seed_gives : C → ℕ → C → Type 0) (chance_gives : C → ℕ → One → C → Type 0) (draw_gives : Gives One)
    (word_gives : C → ℕ → C → Type 0) (image : Image) (budget seed : ℕ) (put text : List ℕ) (old new : C) : Type 0 where
  pub begun : C
  pub anew : seed_gives old seed begun
  pub stopped : Bool
  pub left : List ℕ
  pub put_is : put ≡ bytes_of_words left
  pub report : List ℕ
  pub text_is : text ≡ rebuilt_line stopped ++ report
  pub asked : RebuildDraws chance_gives draw_gives word_gives image budget stopped left begun new

-- the bytes of the image that is left, which are read again as its words, are put, and the line and the report on that image are printed
pub record Rebuilds (image : Image) (count budget : ℕ) (put text : List ℕ) : Type 0 where
  pub stopped : Bool
  pub left : List ℕ
  pub rebuilt : IsRebuilt image count budget stopped left
  pub put_is : put ≡ bytes_of_words left
  pub words_are : AreWordsOf left put
  pub report : List ℕ
  pub tells : TellsHeap (slice_index left) report
  pub text_is : text ≡ rebuilt_line stopped ++ report

-- A heap that is closed after a run: all seats are back, and its words are whole images.
use Rattle.std.proofs.Common.{◌≡◌, ◌<◌, ℕ, inl, inr, List, [], ◌∷◌, ◌++◌, length, slice_index, refl, sym, ap, ◌∙◌, arith}
use Rattle.heap_model.specs.declared.block.Block.{Block}
use Rattle.heap_model.specs.Durability.{Mixes}
use Rattle.heap_model.specs.Geometry.{capacity_word, image_words}
use Rattle.heap_model.specs.Header.{capacity_of}
use Rattle.heap_model.specs.Image.{Image}
use Rattle.heap_model.specs.Rest.{IsReady}
use Rattle.core_model.specs.Opening.{setup_of}
use Rattle.core_model.specs.View.{View}
use Rattle.heap_table.specs.AtTable.{IsClosedSound}
use Rattle.heap_rule.proofs.ClosedLemmas.{mixed_is}
use Rattle.heap_rule.proofs.SeatImageLemmas.{mixed_fixed}
use Rattle.worker_run.specs.Left.{AreWholeImage}

-- the first of some
pub first_of : {X : Type 0} (xs : List X) → 0 < length xs → X
first_of [] some = absurd (omega (arith, some))
first_of (x ∷ xs) some = x

-- what is closed has the opened capacity, in both values of each word
module _ (words : List ℕ) (held : List Block) (workers budget : ℕ) (now kept : List ℕ) (views : List View) (ready : IsReady words held)
    (closed : IsClosedSound (setup_of words budget workers) now kept views) where
  fixed : (image : Image) → Mixes (slice_index now) (slice_index kept) image → capacity_of image ≡ capacity_of (slice_index words)
  fixed image mixes = (mixed_fixed (setup_of words budget workers) (now ++ (kept ++ (closed.drawn ∷ []))) views closed.sound image
      (mixed_is (setup_of words budget workers) now kept views closed image mixes)).each capacity_word (inl (omega arith))

  pub now_capacity : capacity_of (slice_index now) ≡ capacity_of (slice_index words)
  now_capacity = fixed (slice_index now) (record { each = λ word. inl refl })

  pub kept_capacity : capacity_of (slice_index kept) ≡ capacity_of (slice_index words)
  kept_capacity = fixed (slice_index kept) (record { each = λ word. inr refl })

  pub now_whole : AreWholeImage now
  now_whole = record {
    some = let same = now_capacity in let least = ready.formed.some in omega arith;
    small = let same = now_capacity in let most = ready.formed.small in omega arith;
    long = closed.now_long ∙ ap image_words (sym now_capacity);
  }

  pub kept_whole : AreWholeImage kept
  kept_whole = record {
    some = let same = kept_capacity in let least = ready.formed.some in omega arith;
    small = let same = kept_capacity in let most = ready.formed.small in omega arith;
    long = closed.kept_long ∙ ap image_words (sym kept_capacity);
  }

  pub now_long : length now ≡ length words
  now_long = let a = closed.now_long in let b = ready.formed.length_is in omega arith

  pub both_long : length kept ≡ length now
  both_long = closed.kept_long ∙ sym closed.now_long

-- The text on a heap that was opened is that on the image: where it was recovered with no filter, and elsewhere.
use Rattle.std.proofs.Common.{◌≡◌, ◌↔◌, ℕ, Bool, List, [], ◌++◌, slice_index, ap, ◌∙◌, inl, inr, refl}
use Rattle.std.specs.Prelude.{if◌then◌else◌}
use Rattle.heap_model.specs.Image.{Image}
use Rattle.heap_model.specs.Header.{capacity_of, state_of}
use Rattle.heap_model.specs.Geometry.{clean, capacity_word}
use Rattle.heap_model.specs.Recovery.{in_header}
use Rattle.heap_recover.specs.declared.answer.Recovered.{Recovered}
use Rattle.heap_recover.specs.declared.answer.Was.TheVariants.{Clean}
use Rattle.heap_recover.specs.Answer.{IsMadeOf}
use Rattle.trace_text.specs.Report.{report_of}
use Rattle.trace_text.specs.Recovered.{is_clean}
use Rattle.mixed_trace.specs.Conservative.{IsReachedByWords}
use Rattle.trace_text.specs.HeapMap.{map_of}
use Rattle.image_run.specs.Reporting.{shown_text}
use Rattle.image_run.proofs.TextLemmas.{same_test}
use Rattle.image_run.specs.Conservative.{IsHeapText, TellsByWords}

-- the text on the heap is that on the image, where these have one capacity and one state
pub same_unkeyed_text : (image : Image) (recovered : Recovered) (with_map : Bool) (text : List ℕ)
    → capacity_of (slice_index recovered.heap.words) ≡ capacity_of image → ((recovered.was ≡ Clean) ↔ (state_of image ≡ clean))
    → IsHeapText recovered with_map text → text ≡ shown_text image with_map [] recovered.heap.held recovered.free.items
    (slice_index recovered.heap.words)
same_unkeyed_text image recovered with_map text capacity was told =
    let new = slice_index recovered.heap.words in
    let map : List ℕ = if with_map then map_of new recovered.heap.held recovered.free.items else [] in
    told.is
    ∙ ap (λ (keys : List ℕ). report_of (capacity_of new) (is_clean recovered.was) keys recovered.heap.held ++ map) told.none
    ∙ ap (λ n. report_of n (is_clean recovered.was) [] recovered.heap.held ++ map) capacity
    ∙ ap (λ b. report_of (capacity_of image) b [] recovered.heap.held ++ map) (same_test recovered.was (state_of image) clean was)

pub tells_by_words : (words : List ℕ) (recovered : Recovered) (with_map : Bool) (text : List ℕ)
    → IsMadeOf words (IsReachedByWords (slice_index words)) recovered → IsHeapText recovered with_map text
    → TellsByWords (slice_index words) with_map text
tells_by_words words recovered with_map text made told = record {
  held = recovered.heap.held;
  free = recovered.free.items;
  words = slice_index recovered.heap.words;
  held_are = made.held;
  free_are = made.free;
  words_are = made.recovered;
  text_is = same_unkeyed_text (slice_index words) recovered with_map text
      (made.recovered.same capacity_word (in_header capacity_word (inr (inr (inl refl))))) made.was told;
}

-- The text on a heap that was opened is that on the image, by the way that was taken.
use Rattle.std.proofs.Common.{◌≡◌, ◌↔◌, ℕ, Bool, List, ◌++◌, slice_index, ap, ◌∙◌, inl, inr, refl, sym}
use Rattle.heap_model.specs.Image.{Image}
use Rattle.heap_model.specs.Geometry.{capacity_word}
use Rattle.heap_model.specs.Recovery.{in_header}
use Rattle.heap_at_rest.specs.Orderly.{IsHeldByAnchors}
use Rattle.heap_recover.specs.Answer.{IsMadeOf}
use Rattle.quick_recover.specs.declared.open.Path.{Path}
use Rattle.quick_recover.specs.declared.open.Path.TheVariants.{Quick as ByAnchors, Traced}
use Rattle.quick_recover.specs.declared.open.Quick.{Quick}
use Rattle.quick_recover.specs.Reopened.{IsReopenedAs}
use Rattle.image_run.specs.Reporting.{IsKept, PointsOutside}
use Rattle.image_run.proofs.ConservativeLemmas.{same_unkeyed_text}
use Rattle.image_run.specs.Counting.{IsOrderlyImage, IsOpenedText, TellsOpened, by_anchors, traced, way_line}

module _ (words : List ℕ) (opened : Quick) (with_map : Bool) (text : List ℕ) (told : IsOpenedText opened with_map text) where
  abbrev image : Image
  image = slice_index words

  told_by_anchors : opened.path ≡ ByAnchors → IsOrderlyImage words → IsReopenedAs words (IsHeldByAnchors image) opened.recovered
      → TellsOpened words with_map text
  told_by_anchors way orderly made = by_anchors orderly (record {
    held = opened.recovered.heap.held;
    free = opened.recovered.free.items;
    words = slice_index opened.recovered.heap.words;
    held_are = made.held;
    free_are = made.free;
    words_are = made.reopened;
    text_is = told.is
        ∙ ap (λ p. way_line p ++ told.report) way
        ∙ ap (λ (report : List ℕ). way_line ByAnchors ++ report) (same_unkeyed_text image opened.recovered with_map told.report
        (made.reopened.same capacity_word (in_header capacity_word (inr (inr (inl refl))))) (λ is. orderly.closed, λ is. made.was) told.is_report);
  })

  told_by_trace : opened.path ≡ Traced → ¬ (IsOrderlyImage words) → ((at : ℕ) → PointsOutside image at → ⊥)
      → IsMadeOf words (IsKept image) opened.recovered
      → TellsOpened words with_map text
  told_by_trace way disorderly none made = traced disorderly none (record {
    held = opened.recovered.heap.held;
    free = opened.recovered.free.items;
    words = slice_index opened.recovered.heap.words;
    held_are = made.held;
    free_are = made.free;
    words_are = made.recovered;
    text_is = told.is
        ∙ ap (λ p. way_line p ++ told.report) way
        ∙ ap (λ (report : List ℕ). way_line Traced ++ report) (same_unkeyed_text image opened.recovered with_map told.report
        (made.recovered.same capacity_word (in_header capacity_word (inr (inr (inl refl))))) made.was told.is_report);
  })

  -- the text tells of the way that was taken
  pub tells_opened : ((opened.path ≡ ByAnchors) ↔ IsOrderlyImage words)
      → (opened.path ≡ ByAnchors → IsReopenedAs words (IsHeldByAnchors image) opened.recovered)
      → (opened.path ≡ Traced → IsMadeOf words (IsKept image) opened.recovered)
      → (opened.path ≡ Traced → (at : ℕ) → PointsOutside image at → ⊥) → TellsOpened words with_map text
  tells_opened path quick made none = go opened.path refl
    where
      go : (p : Path) → opened.path ≡ p → TellsOpened words with_map text
      go ByAnchors way = told_by_anchors way (path.0 way) (quick way)
      go Traced way = told_by_trace way (λ orderly. let never : Traced ≡ ByAnchors = sym way ∙ path.1 orderly in absurd (cc)) (none way) (made way)

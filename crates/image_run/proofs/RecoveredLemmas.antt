-- Recovery makes the words of the heap of the image.
use Rattle.std.proofs.Common.{ℕ, slice_index}
use Rattle.heap_model.specs.Image.{Image}
use Rattle.heap_model.specs.Rest.{IsReady}
use Rattle.heap_recover.specs.declared.answer.Recovered.{Recovered}
use Rattle.dictionary.specs.Reading.{RecoversTo}
use Rattle.image_run.specs.Reporting.{IsRecoveredHeap, PointsOutside}

-- recovery makes the heap's words of the image
pub recovers_to : (image : Image) (recovered : Recovered) → IsRecoveredHeap image recovered → ((at : ℕ) → PointsOutside image at → ⊥)
    → IsReady recovered.heap.words recovered.heap.held → RecoversTo image (slice_index recovered.heap.words)
recovers_to image recovered is inside ready = record {
  recovered = is.recovers.words_are;
  inside = inside;
  blocks = λ b kept. ready.blocks b (is.recovers.held_are.complete b kept);
}

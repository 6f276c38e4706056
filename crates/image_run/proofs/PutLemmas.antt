-- Bytes that stand for words, and that what a run puts can be run again.
use Rattle.std.proofs.Common.{◌≡◌, ◌↔◌, ◌*◌, ◌/◌, ℕ, List, false, Some, None, length, slice_index, sym, subst, ap, ◌∙◌, arith}
use Rattle.std.proofs.lemmas.Grind.{same_number_lists}
use Rattle.heap_model.specs.declared.block.Block.{Block}
use Rattle.heap_model.specs.Geometry.{version, version_word}
use Rattle.heap_model.specs.Image.{Image, image_of_bytes}
use Rattle.heap_model.specs.Header.{header_fault, first_kinds}
use Rattle.heap_model.proofs.ImageLemmas.{length-words_from, get_or-words_from}
use Rattle.heap_at_rest.specs.Orderly.{IsOrderly, IsHeldByAnchors}
use Rattle.dict_model.specs.Links.{kind_count}
use Rattle.dict_model.specs.Requests.{Request}
use Rattle.run_model.specs.Opened.{HasMaps, CanBeRun}
use Rattle.worker_run.specs.Said.{replies_of}
use Rattle.worker_run.proofs.AgainLemmas.{can_be_run}
use Rattle.region_header.specs.Words.{AreWordsOf}
use Rattle.region_header.proofs.WordBytes.{image_of_words}
use Rattle.region_header.specs.Migration.{current_words}
use Rattle.region_header.proofs.MigrationLemmas.{current_of_new}
use Rattle.image_run.specs.Reporting.{fault_of, words_in_bytes, image_in, IsKept, PointsOutside}
use Rattle.image_run.specs.Running.{Options, RunsRequests}

-- so bytes of words with a good header are not malformed
pub good_bytes : (words bytes : List ℕ) → AreWordsOf words bytes → header_fault (Some kind_count) (8 * length words) (slice_index words) ≡ None
    → fault_of bytes ≡ None
good_bytes words bytes are good =
    subst (λ n. header_fault (Some kind_count) n (image_of_bytes bytes) ≡ None) are.count
    (subst (λ (image : Image). header_fault (Some kind_count) (8 * length words) image ≡ None) (image_of_words words bytes are) good)

-- the words that bytes stand for are those in them
pub words_are_in : (words bytes : List ℕ) → AreWordsOf words bytes → words_in_bytes bytes ≡ words
words_are_in words bytes are =
    let count = are.count in
    let long = length-words_from (image_of_bytes bytes) 0 (length bytes / 8) in
    same_number_lists (words_in_bytes bytes) words (omega arith) (λ i below.
    get_or-words_from (image_of_bytes bytes) 0 (length bytes / 8) i 0 (omega arith) ∙ ap (image_of_bytes bytes) (omega arith) ∙ sym (are.word i))

-- words of this version are the image in their bytes
pub image_in_words : (words bytes : List ℕ) → AreWordsOf words bytes → slice_index words version_word ≡ version → image_in bytes ≡ slice_index words
image_in_words words bytes are is_new =
    ap (λ (ws : List ℕ). slice_index (current_words ws first_kinds)) (words_are_in words bytes are)
    ∙ ap slice_index (current_of_new words first_kinds is_new)

module _ (image : Image) (requests : List Request) (options : Options) (put text : List ℕ) (have : HasMaps image)
    (runs : RunsRequests image requests options put text) where
  pub left_again : CanBeRun (length runs.left) (slice_index runs.left)
  left_again =
      can_be_run image (slice_index runs.left) options.workers requests (replies_of runs.told) runs.stopped (length runs.left) have
      runs.leaves.maps runs.leaves.header runs.leaves.others

  put_again : CanBeRun (length runs.left) (image_in put)
  put_again = subst (λ (i : Image). CanBeRun (length runs.left) i) (sym (image_in_words runs.left put runs.words_are left_again.version_is)) left_again

  pub put_good : fault_of put ≡ None
  put_good = good_bytes runs.left put runs.words_are left_again.well_formed

  pub put_inside : (at : ℕ) → PointsOutside (image_in put) at → ⊥
  put_inside = put_again.nothing_outside

  pub put_maps : HasMaps (image_in put)
  put_maps = put_again.maps

  -- where the run wasn't stopped, its own anchors tell what is reached
  pub put_orderly : runs.stopped ≡ false → IsOrderly (Some kind_count) (length put) (image_in put)
      × ((b : Block) → IsHeldByAnchors (image_in put) b ↔ IsKept (image_in put) b)
  put_orderly closed =
      let same = sym (image_in_words runs.left put runs.words_are left_again.version_is) in
      let left : IsOrderly (Some kind_count) (length put) (slice_index runs.left) =
      subst (λ n. IsOrderly (Some kind_count) n (slice_index runs.left)) runs.words_are.count (runs.leaves.orderly.orderly closed) in (
        subst (λ (i : Image). IsOrderly (Some kind_count) (length put) i) same left,
        subst (λ (i : Image). (b : Block) → IsHeldByAnchors i b ↔ IsKept i b) same (runs.leaves.orderly.exact closed),
      )

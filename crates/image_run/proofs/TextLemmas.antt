-- The text on a recovered heap is the report on the image that was recovered.
use Rattle.std.proofs.Common.{◌≡◌, ◌↔◌, ℕ, Bool, false, nat_eq, List, [], ◌++◌, Some, None, slice_index, sym, ap, ◌∙◌, inl, inr, refl, Result, Ok, Err, IfOk}
use Rattle.std.specs.Prelude.{if◌then◌else◌}
use Rattle.std.specs.BTreeMap.{BTreeMap, get}
use Rattle.std.specs.Ordering.{nat_cmp}
use Rattle.std.proofs.lemmas.Bool.{ne_eqb, eq-eqb}
use Rattle.heap_model.specs.Image.{Image}
use Rattle.heap_model.specs.Header.{capacity_of, state_of}
use Rattle.heap_model.specs.Geometry.{clean, capacity_word}
use Rattle.heap_model.specs.Recovery.{in_header}
use Rattle.heap_recover.specs.declared.answer.Recovered.{Recovered}
use Rattle.heap_recover.specs.declared.answer.Was.{Was}
use Rattle.heap_recover.specs.declared.answer.Was.TheVariants.{Clean, Dirty}
use Rattle.dict_model.specs.Links.{shards}
use Rattle.dictionary.specs.Reading.{AreMaps}
use Rattle.trace_text.specs.Report.{report_of}
use Rattle.trace_text.specs.HeapMap.{map_of}
use Rattle.trace_text.specs.Keys.{TellsKeys, IsReport}
use Rattle.trace_text.specs.Recovered.{is_clean}
use Rattle.image_run.specs.Reporting.{IsRecoveredHeap, TellsHeap, IsTextOf, Reports, text_of, shown_text}
use Rattle.image_run.proofs.EntryLemmas.{entries_ascend}

-- a test that holds exactly where two numbers are equal
pub same_test : (was : Was) (m n : ℕ) → (was ≡ Clean) ↔ (m ≡ n) → is_clean was ≡ nat_eq m n
same_test Clean m n is = sym (eq-eqb m n (is.0 refl))
same_test Dirty m n is = sym (ne_eqb m n (λ e. let yes : Dirty ≡ Clean = is.1 e in absurd (cc)))

-- the text on a recovered heap is that on the image
same_text : (image : Image) (recovered : Recovered) (keys : List ℕ) (with_map : Bool) → IsRecoveredHeap image recovered
    → text_of recovered keys with_map ≡ shown_text image with_map keys recovered.heap.held recovered.free.items (slice_index recovered.heap.words)
same_text image recovered keys with_map is =
    let capacity : slice_index recovered.heap.words capacity_word ≡ image capacity_word =
    is.recovers.words_are.same capacity_word (in_header capacity_word (inr (inr (inl refl)))) in
    let state : is_clean recovered.was ≡ nat_eq (state_of image) clean = same_test recovered.was (state_of image) clean is.was in
    ap (λ n. report_of n (is_clean recovered.was) keys recovered.heap.held ++
    (if with_map then map_of (slice_index recovered.heap.words) recovered.heap.held recovered.free.items else [])) capacity
    ∙ ap (λ b. report_of (capacity_of image) b keys recovered.heap.held ++
    (if with_map then map_of (slice_index recovered.heap.words) recovered.heap.held recovered.free.items else [])) state

-- so it is the report on the image, where the maps are those of the image
pub reports : (image : Image) (recovered : Recovered) (maps : List (BTreeMap ℕ (List ℕ))) (with_sum with_map : Bool) (text : List ℕ)
    → IsRecoveredHeap image recovered
    → AreMaps image shards maps → IsTextOf recovered maps with_sum with_map text → Reports image with_sum with_map text
reports image recovered maps with_sum with_map text is are text_is =
    let told : TellsKeys (Some maps) with_sum text_is.keys = text_is.keys_are in
    record {
      held = recovered.heap.held;
      free = recovered.free.items;
      words = slice_index recovered.heap.words;
      recovered = is.recovers;
      maps = λ i below. let each = are.each i below in (get nat_cmp each.0, each.2);
      entries = told.0;
      entries_are = entries_ascend image maps are told.0 told.1;
      text_is = text_is.is ∙ same_text image recovered text_is.keys with_map is
          ∙ ap (λ (keys : List ℕ). shown_text image with_map keys recovered.heap.held recovered.free.items (slice_index recovered.heap.words)) told.2;
    }

-- the report on a recovered heap without keys is that on the image
pub tells_heap : (image : Image) (recovered : Recovered) (text : List ℕ) → IsRecoveredHeap image recovered
    → IsReport (capacity_of (slice_index recovered.heap.words)) (is_clean recovered.was) None false recovered.heap.held text → TellsHeap image text
tells_heap image recovered text is report = record {
  held = recovered.heap.held;
  free = recovered.free.items;
  words = slice_index recovered.heap.words;
  recovered = is.recovers;
  text_is = report.is
      ∙ ap (λ (keys : List ℕ). report_of (capacity_of (slice_index recovered.heap.words)) (is_clean recovered.was) keys recovered.heap.held)
      report.tells
      ∙ ap (λ n. report_of n (is_clean recovered.was) [] recovered.heap.held) capacity
      ∙ ap (λ b. report_of (capacity_of image) b [] recovered.heap.held) (same_test recovered.was (state_of image) clean is.was);
} where
  capacity : capacity_of (slice_index recovered.heap.words) ≡ capacity_of image
  capacity = is.recovers.words_are.same capacity_word (in_header capacity_word (inr (inr (inl refl))))

-- what follows at an answer
pub if_answer : {T E : Type 0} (P Q : T → Type 0) (result : Result T E) → IfOk result P → ((x : T) → P x → Q x) → IfOk result Q
if_answer P Q (Ok x) is next = next x is
if_answer P Q (Err e) is next = tt

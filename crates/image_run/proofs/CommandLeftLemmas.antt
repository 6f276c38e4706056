-- An image that a command leaves is recovered: its header is never refused, nor what points nowhere where nothing does,
-- and no shard of what a run leaves is.
use Rattle.std.proofs.Common.{◌≡◌, ◌↔◌, ℕ, List, length, slice_index, Some, subst}
use Rattle.heap_model.specs.declared.block.Block.{Block}
use Rattle.heap_model.specs.Geometry.{clean, version, version_word}
use Rattle.heap_model.specs.Image.{Image}
use Rattle.heap_model.specs.Header.{state_of, HasKindsBelow}
use Rattle.heap_model.specs.Blocks.{layout_of}
use Rattle.heap_model.specs.Recovered.{IsFreeSuperblock, AreAscending}
use Rattle.heap_model.specs.Recovery.{IsRecovered}
use Rattle.region_header.specs.Migration.{current_words}
use Rattle.region_header.proofs.MigrationLemmas.{current_of_new}
use Rattle.dict_model.specs.Links.{dict_links, kind_count}
use Rattle.dict_model.proofs.ShardLemmas.{no_bad_shard}
use Rattle.dictionary.specs.Reading.{RecoversTo, TellsLowest}
use Rattle.dictionary.specs.declared.fault.MapFault.TheVariants.{BadShard}
use Rattle.dictionary.proofs.SameLemmas.{bad_kept}
use Rattle.heap_recover.specs.Fault.{TellsFault}
use Rattle.heap_recover.specs.declared.answer.Recovered.{Recovered}
use Rattle.heap_recover.specs.declared.answer.Was.TheVariants.{Clean}
use Rattle.heap_recover.specs.declared.fault.RecoverFault.{RecoverFault}
use Rattle.heap_recover.specs.declared.fault.RecoverFault.TheVariants.{Outside}
use Rattle.run_model.specs.Opened.{CanBeRun}
use Rattle.image_run.specs.Reporting.{IsKept, PointsOutside, Recovers, IsRecoveredHeap}

-- words of this version are recovered as they are
module _ (words kinds : List ℕ) (is_new : slice_index words version_word ≡ version) where
  pub recovery_of_words : (answer : Recovered)
      → AreAscending (λ (b : Block). b.first_word) (IsKept (slice_index (current_words words kinds))) answer.heap.held
      → AreAscending (λ d. d) (IsFreeSuperblock (layout_of (slice_index (current_words words kinds)))
      (IsKept (slice_index (current_words words kinds)))) answer.free.items
      → IsRecovered (slice_index (current_words words kinds)) (slice_index answer.heap.words) (IsKept (slice_index (current_words words kinds)))
      → ((answer.was ≡ Clean) ↔ (state_of (slice_index words) ≡ clean)) → HasKindsBelow (Some kind_count) (slice_index answer.heap.words)
      → IsRecoveredHeap (slice_index words) answer
  recovery_of_words answer held free left was below = record {
    recovers = subst (λ (ws : List ℕ). Recovers (slice_index ws) answer.heap.held answer.free.items (slice_index answer.heap.words))
        (current_of_new words kinds is_new) (record { held_are = held; free_are = free; words_are = left });
    was = was;
    kinds = below;
  }

  -- so what is told as outside is outside, and where nothing is told nothing is
  pub told_outside : (at value : ℕ) → PointsOutside (slice_index (current_words words kinds)) at → value ≡ slice_index (current_words words kinds) at
      → PointsOutside (slice_index words) at × (value ≡ slice_index words at)
  told_outside at value points is =
      subst (λ (ws : List ℕ). PointsOutside (slice_index ws) at × (value ≡ slice_index ws at)) (current_of_new words kinds is_new) (points, is)

  pub none_outside : ((at : ℕ) → PointsOutside (slice_index (current_words words kinds)) at → ⊥) → (at : ℕ) → PointsOutside (slice_index words) at → ⊥
  none_outside = subst (λ (ws : List ℕ). (at : ℕ) → PointsOutside (slice_index ws) at → ⊥) (current_of_new words kinds is_new)

-- a word that recovery tells as outside
pub told_fault : (words kinds : List ℕ) → slice_index words version_word ≡ version → (fault : RecoverFault) (at value : ℕ) → fault ≡ Outside at value
    → TellsFault (Some kind_count) words (current_words words kinds) dict_links fault
    → PointsOutside (slice_index words) at × (value ≡ slice_index words at)
told_fault words kinds is_new fault at value is tells =
    let why = subst (λ (f : RecoverFault). TellsFault (Some kind_count) words (current_words words kinds) dict_links f) is tells in
    told_outside words kinds is_new at value why.1 why.2

-- no shard is refused
pub shard_good : (words : List ℕ) (new : Image) (shard at : ℕ) → CanBeRun (length words) (slice_index words)
    → RecoversTo (slice_index words) new → TellsLowest new (BadShard shard at) → ⊥
shard_good words new shard at accepted to tells =
    let map = accepted.maps.each shard tells.0 in
    no_bad_shard (slice_index words) shard at map.0 map.1 (bad_kept (slice_index words) new to shard at tells.0 tells.1)

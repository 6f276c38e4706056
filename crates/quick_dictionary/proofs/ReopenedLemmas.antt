-- What an orderly dictionary is opened as, and what it is recovered as.
use Rattle.std.proofs.Common.{◌≡◌, ℕ, ◌*◌, ◌<◌, ◌↔◌, List, Some, Contains, length, slice_index, sym, ◌∙◌, arith}
use Rattle.heap_model.specs.declared.block.Block.{Block}
use Rattle.heap_model.specs.Geometry.{info_word}
use Rattle.heap_model.specs.Image.{Image}
use Rattle.heap_model.specs.Blocks.{IsBlock, IsIn, layout_of}
use Rattle.heap_model.specs.Reach.{IsReachedIn}
use Rattle.heap_model.specs.Recovered.{HasPartIn, IsFreeSuperblock, AreAscending}
use Rattle.heap_model.specs.Header.{kinds_of}
use Rattle.heap_model.proofs.BlockLemmas.{block_inside}
use Rattle.heap_model.proofs.ReachLemmas.{reached_block}
use Rattle.heap_at_rest.proofs.LayoutLemmas.{same_there}
use Rattle.heap_at_rest.proofs.RecoveryLeftLemmas.{IsLeft}
use Rattle.heap_at_rest.proofs.PartLemmas.{part_taken}
use Rattle.heap_at_rest.proofs.RecoveredLemmas.{same_capacity, same_used, info_left, heap_left}
use Rattle.heap_at_rest.proofs.StandingLemmas.{Standing, is_untaken, is_free, is_partial, is_fully_kept, is_in_large, cases_superblock}
use Rattle.heap_at_rest.specs.Orderly.{IsHeldByAnchors}
use Rattle.heap_recover.specs.declared.answer.Recovered.{Recovered}
use Rattle.heap_recover.specs.Answer.{IsMadeOf}
use Rattle.heap_recover.specs.InPlace.{RecoversAlike}
use Rattle.heap_recover.proofs.AscendingLemmas.{ascending_one}
use Rattle.heap_recover.proofs.UnchangedLemmas.{words_unchanged}
use Rattle.quick_recover.specs.Reopened.{IsReopened, IsReopenedAs}
use Rattle.dict_model.specs.Links.{dict_links, kind_count, shards}
use Rattle.dict_model.specs.Shards.{Map, MapOf}
use Rattle.run_model.specs.Opened.{IsDictionary}
use Rattle.quick_dictionary.specs.OrderlyDictionary.{IsOrderlyDictionary}
use Rattle.dictionary.proofs.KeptLemmas.{KeepsReached, same_reach, same_map, none_left}
use Rattle.quick_dictionary.proofs.KeptLemmas.{kinds_below, recovers_alike}

-- opening by anchors keeps the blocks that are kept, with their words
module _ (old new : Image) (kept : Block → Type 0) (held : List Block) (are : AreAscending (λ (b : Block). b.first_word) kept held)
    (named : (b : Block) → kept b → IsBlock (layout_of old) b) (left : IsReopened old new kept) where
  info_stays : (b : Block) (d : ℕ) → kept b → HasPartIn (layout_of old).capacity b d → new (info_word d) ≡ old (info_word d)
  info_stays b d is_kept part = by_standing (cases_superblock (layout_of old) kept held d are) where
    by_standing : Standing (layout_of old) kept d → new (info_word d) ≡ old (info_word d)
    by_standing (is_untaken past) = absurd (let taken = part_taken (layout_of old) b d (named b is_kept) part in omega arith)
    by_standing (is_free free) = absurd (free.empty b is_kept part)
    by_standing (is_partial class is partial) = (left.partial class d is partial).info_is ∙ sym partial.info_is
    by_standing (is_fully_kept class is full) = (left.full class d is full).info_is ∙ sym full.info_is
    by_standing (is_in_large large) = (left.in_large d large).info_is

  block_stays : (b : Block) → kept b → IsBlock (layout_of new) b
  block_stays b is_kept = same_there (layout_of old) (layout_of new) b (same_capacity old new left.same) (same_used old new left.same)
      (λ d part. info_stays b d is_kept part) (named b is_kept)

  word_stays : (b : Block) (word : ℕ) → kept b → IsIn b word → new word ≡ old word
  word_stays b word is_kept inside =
      let lies = block_inside (layout_of old) b (named b is_kept) in
      let from = inside.from in
      left.inside word (omega (arith, lies.0))

reached_is_block : (image : Image) (b : Block) → IsReachedIn image dict_links b → IsBlock (layout_of image) b
reached_is_block image b reached = reached_block image (kinds_of image) dict_links b reached.kind reached.reach

module _ (words : List ℕ) (is : IsOrderlyDictionary (8 * length words) (slice_index words)) where
  abbrev image : Image
  image = slice_index words

  held_reached : (b : Block) → IsHeldByAnchors (slice_index words) b ↔ IsReachedIn (slice_index words) dict_links b
  held_reached = is.dictionary.exact

  module _ (quick : Recovered) (opened : IsReopenedAs words (IsHeldByAnchors (slice_index words)) quick) where
    keeps_quick : KeepsReached (slice_index words) (slice_index quick.heap.words)
    keeps_quick =
        let new : Image = slice_index quick.heap.words in
        let kept = IsHeldByAnchors image in
        let named = λ (b : Block) (h : kept b). reached_is_block image b ((held_reached b).0 h) in
        record {
          same = opened.reopened.same;
          state = opened.reopened.state;
          words = λ b word reached inside. word_stays image new kept quick.heap.held opened.held named opened.reopened b word
              ((held_reached b).1 reached) inside;
          blocks = λ b reached. block_stays image new kept quick.heap.held opened.held named opened.reopened b ((held_reached b).1 reached);
          none = is.dictionary.nothing_outside;
        }

    pub quick_alike : RecoversAlike (Some kind_count) (8 * length words) (slice_index words) (slice_index quick.heap.words) dict_links
    quick_alike = recovers_alike image (slice_index quick.heap.words) keeps_quick (8 * length words) is.formed is.dictionary.maps.kinds

    pub quick_map : (shard : ℕ) (map : Map) → shard < shards → MapOf (slice_index words) shard map ↔ MapOf (slice_index quick.heap.words) shard map
    quick_map = same_map image (slice_index quick.heap.words) keeps_quick

    pub quick_dictionary : IsDictionary (slice_index quick.heap.words) (Contains quick.heap.held)
    quick_dictionary = record {
      nothing_outside = λ at out. none_left image (slice_index quick.heap.words) keeps_quick at out.traced out.outside;
      maps = record {
        kinds = kinds_below image (slice_index quick.heap.words) keeps_quick is.dictionary.maps.kinds;
        each = λ shard below. let m = is.dictionary.maps.each shard below in (m.0, (quick_map shard m.0 below).0 m.1);
      };
      exact = λ b. (
        λ h. (same_reach image (slice_index quick.heap.words) keeps_quick b).0 ((held_reached b).0 (opened.held.sound b h)),
        λ r. opened.held.complete b ((held_reached b).1 ((same_reach image (slice_index quick.heap.words) keeps_quick b).1 r)),
      );
    }

    -- what recovery makes of the image
    module _ (traced : Recovered) (made : IsMadeOf words (IsReachedIn (slice_index words) dict_links) traced) where
      keeps_traced : KeepsReached (slice_index words) (slice_index traced.heap.words)
      keeps_traced =
          let new : Image = slice_index traced.heap.words in
          let kept = IsReachedIn image dict_links in
          let left : IsLeft image new kept traced.heap.held = record {
            heap = heap_left image new kept (reached_is_block image) made.recovered;
            named = reached_is_block image;
            are_held = made.held;
          } in
          record {
            same = made.recovered.same;
            state = made.recovered.state;
            words = λ b word reached inside. words_unchanged image new (kinds_of image) dict_links made.recovered b word reached inside;
            blocks = λ b reached. same_there (layout_of image) (layout_of new) b (same_capacity image new made.recovered.same)
                (same_used image new made.recovered.same)
                (λ d part. info_left image new kept traced.heap.held left b d reached part) (reached_is_block image b reached);
            none = is.dictionary.nothing_outside;
          }

      both_maps : (shard : ℕ) (map : Map) → shard < shards
          → MapOf (slice_index quick.heap.words) shard map ↔ MapOf (slice_index traced.heap.words) shard map
      both_maps shard map below =
          let there = same_map image (slice_index traced.heap.words) keeps_traced shard map below in
          let here = quick_map shard map below in
          (λ m. there.0 (here.1 m), λ m. here.0 (there.1 m))

      pub as_recovered : (quick.heap.held ≡ traced.heap.held) × (quick.free.items ≡ traced.free.items)
          × ((shard : ℕ) (map : Map) → shard < shards
          → MapOf (slice_index quick.heap.words) shard map ↔ MapOf (slice_index traced.heap.words) shard map)
      as_recovered = (
        ascending_one (λ (b : Block). b.first_word) (IsHeldByAnchors image) (IsReachedIn image dict_links) quick.heap.held traced.heap.held
            (λ b. (held_reached b).0) (λ b. (held_reached b).1) opened.held made.held,
        ascending_one (λ d. d) (IsFreeSuperblock (layout_of image) (IsHeldByAnchors image))
            (IsFreeSuperblock (layout_of image) (IsReachedIn image dict_links)) quick.free.items traced.free.items
            (λ d free. record { taken = free.taken; empty = λ b r part. free.empty b ((held_reached b).1 r) part })
            (λ d free. record { taken = free.taken; empty = λ b h part. free.empty b ((held_reached b).0 h) part })
            opened.free made.free,
        both_maps,
      )

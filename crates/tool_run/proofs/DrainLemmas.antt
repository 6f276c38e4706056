-- What draining a class of a recovered heap gives is what the image says that it must give.
use Rattle.std.proofs.Common.{◌≡◌, ◌↔◌, ℕ, ◌≤◌, List, Contains, slice_index, inl, inr, refl, sym, subst}
use Rattle.heap_model.specs.declared.block.Block.{Block}
use Rattle.heap_model.specs.Geometry.{largest_capacity, capacity_word}
use Rattle.heap_model.specs.Image.{Image}
use Rattle.heap_model.specs.Header.{capacity_of, kinds_of}
use Rattle.heap_model.specs.Blocks.{layout_of, IsBlock}
use Rattle.heap_model.specs.Recovered.{IsDrained}
use Rattle.heap_model.specs.Recovery.{in_header}
use Rattle.heap_model.proofs.ReachLemmas.{reached_block}
use Rattle.dict_model.specs.Links.{dict_links}
use Rattle.heap_at_rest.specs.Draining.{IsDrainable, IsToDrain}
use Rattle.heap_at_rest.proofs.DrainableLemmas.{recovered_places, left_drainable, left_drains}
use Rattle.heap_recover.specs.declared.answer.Recovered.{Recovered}
use Rattle.tool_ports.specs.Contents.{Contents}
use Rattle.tool_run.specs.Making.{image_in, IsKept, IsOffsetDrained, TellsDrained}
use Rattle.tool_run.specs.Recovering.{IsRecoveredHeapOf, IsDrainableAtRest, IsGiven, IsOffsetGiven, IsGivenText}

module _ (contents : Contents) (name : List ℕ) (recovered : Recovered) (is : IsRecoveredHeapOf contents name recovered) where
  abbrev image : Image
  image = image_in is.bytes

  abbrev words : Image
  words = slice_index recovered.heap.words

  held_are : (b : Block) → Contains recovered.heap.held b ↔ IsKept image b
  held_are b = (is.is.recovers.held_are.sound b, is.is.recovers.held_are.complete b)

  named : (b : Block) → IsKept image b → IsBlock (layout_of image) b
  named b kept = reached_block image (kinds_of image) dict_links b kept.kind kept.reach

  small : capacity_of image ≤ largest_capacity
  small = is.formed.small

  capacity_stays : capacity_of words ≡ capacity_of image
  capacity_stays = is.is.recovers.words_are.same capacity_word (in_header capacity_word (inr (inr (inl refl))))

  -- what recovery leaves is ready to be drained
  pub drainable_at_rest : (class : ℕ) → IsDrainableAtRest recovered.heap.words recovered.heap.held class
  drainable_at_rest class =
      subst (λ n. IsDrainable n words recovered.heap.held class) (sym capacity_stays)
      (left_drainable image words (IsKept image) recovered.heap.held
      (recovered_places image words (IsKept image) is.is.recovers.words_are) named held_are small class)

  given : (class : ℕ) (b : Block) → IsDrained (layout_of image) (IsKept image) class b ↔ IsGiven recovered.heap.words recovered.heap.held class b
  given class b =
      subst (λ n. IsDrained (layout_of image) (IsKept image) class b ↔ IsToDrain n words recovered.heap.held class b) (sym capacity_stays)
      (left_drains image words (IsKept image) recovered.heap.held (recovered_places image words (IsKept image) is.is.recovers.words_are)
      named held_are b class)

  offset_drained : (class offset : ℕ) → IsOffsetGiven recovered.heap.words recovered.heap.held class offset → IsOffsetDrained image class offset
  offset_drained class offset of = record { block = of.block; is_drained = (given class of.block).1 of.is_given; at = of.at }

  offset_given : (class offset : ℕ) → IsOffsetDrained image class offset → IsOffsetGiven recovered.heap.words recovered.heap.held class offset
  offset_given class offset of = record { block = of.block; is_given = (given class of.block).0 of.is_drained; at = of.at }

  -- the text on what the heap gives is that on what the image must give
  pub drains : (class : ℕ) (text : List ℕ) → IsGivenText recovered.heap.words recovered.heap.held class text → TellsDrained contents name class text
  drains class text gives = record {
    bytes = is.bytes;
    is_there = is.is_there;
    good = is.good;
    inside = is.inside;
    offsets = gives.offsets;
    drained = record {
      sound = λ offset has. offset_drained class offset (gives.given.sound offset has);
      complete = λ offset of. gives.given.complete offset (offset_given class offset of);
      ascending = gives.given.ascending;
    };
    text_is = gives.text_is;
  }

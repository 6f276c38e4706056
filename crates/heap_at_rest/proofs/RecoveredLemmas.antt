-- What is left of the header and of infos; and of what recovery makes of an image, that it leaves a heap.
use Rattle.std.proofs.Common.{◌≡◌, ℕ, ◌+◌, ◌*◌, inl, inr, List, length, refl, ap, sym, subst, ◌∙◌, arith}
use Rattle.heap_model.specs.declared.block.Block.{Block}
use Rattle.heap_model.specs.Geometry.{info_word, anchor_word, start_word, magic_word, version_word, capacity_word, used_word}
use Rattle.heap_model.specs.Image.{Image}
use Rattle.heap_model.specs.Header.{IsWellFormed, capacity_of, used_of}
use Rattle.heap_model.specs.Sizes.{IsClass, words_of_class}
use Rattle.heap_model.specs.Words.{anchor_state, anchor_first, anchor_count, partial_state}
use Rattle.heap_model.specs.Blocks.{IsBlock, layout_of}
use Rattle.heap_model.specs.Recovered.{HasPartIn}
use Rattle.heap_model.specs.Chains.{IsChain}
use Rattle.heap_model.specs.Recovery.{IsPartial, IsKeptWord, in_header, IsRecovered}
use Rattle.heap_model.specs.Rest.{IsAnchored}
use Rattle.heap_at_rest.proofs.PartLemmas.{part_taken}
use Rattle.heap_at_rest.proofs.StandingLemmas.{Standing, is_untaken, is_free, is_partial, is_fully_kept, is_in_large, cases_superblock}
use Rattle.heap_model.proofs.CountingLemmas.{times_once}
use Rattle.heap_model.proofs.WordLemmas.{anchor_parts}
use Rattle.heap_at_rest.proofs.ChainLemmas.{some_spare, not_all_spare, first_short}
use Rattle.heap_at_rest.proofs.RecoveryLeftLemmas.{HasSpares, LeavesHeap, IsLeft}

-- where the kept words stay, so do the capacity and the number of superblocks that have been taken
module _ (old new : Image) (same : (word : ℕ) → IsKeptWord (capacity_of old) word → new word ≡ old word) where
  pub same_capacity : capacity_of new ≡ capacity_of old
  same_capacity = same capacity_word (in_header capacity_word (inr (inr (inl refl))))

  pub same_used : used_of new ≡ used_of old
  same_used = same used_word (in_header used_word (inr (inr (inr refl))))

module _ (old new : Image) (kept : Block → Type 0) (held : List Block) (left : IsLeft old new kept held) where
  pub capacity_is : capacity_of new ≡ capacity_of old
  capacity_is = same_capacity old new left.heap.same

  pub used_is : used_of new ≡ used_of old
  used_is = same_used old new left.heap.same

  -- recovery keeps a good header
  pub formed_left : (bytes : ℕ) → IsWellFormed bytes old → IsWellFormed bytes new
  formed_left bytes formed = record {
    magic_is = left.heap.same magic_word (in_header magic_word (inl refl)) ∙ formed.magic_is;
    version_is = left.heap.same version_word (in_header version_word (inr (inl refl))) ∙ formed.version_is;
    some = let same = capacity_is in let some = formed.some in omega arith;
    small = let same = capacity_is in let small = formed.small in omega arith;
    length_is = let same = capacity_is in let long = formed.length_is in omega arith;
    state = inr left.heap.state;
    used = let same = capacity_is in let same_used = used_is in let used = formed.used in omega arith;
  }

  -- how each superblock stands
  pub standing : (d : ℕ) → Standing (layout_of old) kept d
  standing d = cases_superblock (layout_of old) kept held d left.are_held

  -- a superblock that holds a part of a kept block keeps its info
  pub info_left : (b : Block) (d : ℕ) → kept b → HasPartIn (layout_of old).capacity b d → new (info_word d) ≡ old (info_word d)
  info_left b d is_kept part = by_standing (standing d) where
    by_standing : Standing (layout_of old) kept d → new (info_word d) ≡ old (info_word d)
    by_standing (is_untaken past) = absurd (let taken = part_taken (layout_of old) b d (left.named b is_kept) part in omega arith)
    by_standing (is_free free) = absurd (free.empty b is_kept part)
    by_standing (is_partial class is partial) = (left.heap.partial class d is partial).0 ∙ sym partial.info_is
    by_standing (is_fully_kept class is full) = (left.heap.full class d is full).info_is ∙ sym full.info_is
    by_standing (is_in_large large) = (left.heap.in_large d large).info_is

-- what recovery makes of an image
module _ (old new : Image) (kept : Block → Type 0) (named : (b : Block) → kept b → IsBlock (layout_of old) b)
    (recovered : IsRecovered old new kept) where
  -- a partial superblock has the anchor of its chain
  anchored : (class d : ℕ) → IsClass class → IsPartial (layout_of old) kept class d → IsAnchored new class d (recovered.chains d)
  anchored class d is part =
      let chained = recovered.chained class d is part in
      let rechained = recovered.partial class d is part in
      let ws = recovered.chains d in
      let short = first_short (layout_of old) kept class d ws is part chained new rechained.first rechained.walks in
      let parts = anchor_parts partial_state rechained.first (length ws) (omega arith) short in
      let anchor = rechained.words.anchor_is in
      let some = some_spare (layout_of old) kept class d ws is part chained in
      let fewer = not_all_spare (layout_of old) kept class d ws is part chained named in
      let state : anchor_state (new (anchor_word d)) ≡ 1 = ap anchor_state anchor ∙ parts.0 in
      let first : anchor_first (new (anchor_word d)) ≡ rechained.first = ap anchor_first anchor ∙ parts.1 in
      record {
        linked = subst (λ c. IsChain new c class d (start_word c d + anchor_first (new (anchor_word d)) * words_of_class class) ws)
            (sym (same_capacity old new recovered.same))
            (subst (λ k. IsChain new (capacity_of old) class d (start_word (capacity_of old) d + k * words_of_class class) ws) (sym first) (record {
              walks = rechained.walks;
              blocks = λ w p. let spare = chained.sound w p in (
                spare.index,
                record {
                  below = spare.is_block.below;
                  at = sym spare.first ∙ spare.is_block.at;
                  size = refl;
                },
              );
            }));
        count = ap anchor_count anchor ∙ parts.2;
        empty = (λ none. absurd (omega arith), λ all. absurd (omega arith));
        full = (
          λ is_full. absurd (let wrong : anchor_state (new (anchor_word d)) ≡ 2 = ap anchor_state is_full in omega arith),
          λ none. absurd (omega arith),
        );
        partial = λ some fewer_than_all. state;
      }

  -- its chain has each spare block once
  chained_once : (class d : ℕ) → IsClass class → IsPartial (layout_of old) kept class d → HasSpares (layout_of old) kept class d (recovered.chains d)
  chained_once class d is part = let chained = recovered.chained class d is part in
      record { sound = chained.sound; once = λ w spare. times_once w (recovered.chains d) chained.ascending (chained.complete w spare) }

  -- so recovery leaves a heap
  pub heap_left : LeavesHeap old new kept
  heap_left = record {
    descriptors = recovered.descriptors;
    chains = recovered.chains;
    listed = recovered.listed;
    chained = chained_once;
    state = recovered.state;
    same = recovered.same;
    heads = recovered.heads;
    links = recovered.links;
    unlisted = recovered.unlisted;
    free = recovered.free;
    partial = λ class d is part. ((recovered.partial class d is part).words.info_is, anchored class d is part);
    full = recovered.full;
    in_large = recovered.in_large;
    untaken = recovered.untaken;
  }

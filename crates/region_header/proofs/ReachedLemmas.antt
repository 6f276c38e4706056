-- A migrated image reaches what the old one does: roots, infos and blocks stand where the two are the same.
use Rattle.std.proofs.Common.{◌≡◌, ℕ, ◌+◌, ◌*◌, ◌<◌, ◌≤◌, ◌↔◌, List, length, slice_index, None, inl, sym, ap, subst, ◌∙◌, arith}
use Rattle.heap_model.specs.declared.block.Block.{Block}
use Rattle.heap_model.specs.Geometry.{roots, info_word, root_word, old_image_words}
use Rattle.heap_model.specs.Image.{Image}
use Rattle.heap_model.specs.Header.{IsOldWellFormed, kinds_of, capacity_of, used_of}
use Rattle.heap_model.specs.Blocks.{Begins, of_class, as_large, IsBlock, layout_of}
use Rattle.heap_model.specs.Reach.{Links, AreInside, AnyRoot, Reach, ReachIn, IsTraced, is_root, is_linked, IsOutside, IsOutsideIn, TracesAlike}
use Rattle.heap_model.proofs.BlockLemmas.{block_inside}
use Rattle.heap_model.proofs.ImageLemmas.{length-words_from, words_from-agree}
use Rattle.heap_model.proofs.ReachLemmas.{reached_block, reach_kept, traced_kept, outside_kept, reach_by_kinds, traced_by_kinds}
use Rattle.region_header.specs.Migration.{current_words, HasSameHeap}
use Rattle.region_header.proofs.MigrationLemmas.{current_same, current_kinds}

-- the same heap, seen from the other image
pub other_way : (image other : Image) → HasSameHeap image other → HasSameHeap other image
other_way image other same = record {
  capacity_is = sym same.capacity_is;
  state_is = sym same.state_is;
  used_is = sym same.used_is;
  words_are = λ word no_version below. sym (same.words_are word no_version (subst (λ c. word < old_image_words c) same.capacity_is below));
}

module _ (image other : Image) (same : HasSameHeap image other) (few : used_of image ≤ capacity_of image) where
  -- the infos of taken superblocks are the same, so the blocks are
  same_info : (d : ℕ) → d < used_of image → other (info_word d) ≡ image (info_word d)
  same_info d taken = same.words_are (info_word d) (λ e. omega (arith, e)) (omega arith)

  same_begins : (d words count : ℕ) → d < used_of image → Begins (layout_of image) d words count → Begins (layout_of other) d words count
  same_begins d words count taken (of_class class info is) = of_class class (same_info d taken ∙ info) is
  same_begins d words count taken (as_large n some info ends zeros) =
      let used = same.used_is in
      as_large n some (same_info d taken ∙ info) (omega arith) (λ i low high. same_info i (omega arith) ∙ zeros i low high)

  pub same_block : (b : Block) → IsBlock (layout_of image) b → IsBlock (layout_of other) b
  same_block b is = record {
    superblock = is.superblock;
    index = is.index;
    words = is.words;
    count = is.count;
    is_of = record {
      taken = let used = same.used_is in omega (arith, is.is_of.taken);
      begins = same_begins is.superblock is.words is.count is.is_of.taken is.is_of.begins;
      below = is.is_of.below;
      at = let capacity = same.capacity_is in omega (arith, is.is_of.at);
      size = is.is_of.size;
    };
  }

  -- the words of a block are the same
  pub same_part : (b : Block) → IsBlock (layout_of image) b → (word : ℕ) → b.first_word ≤ word → word < b.first_word + b.words → other word ≡ image word
  same_part b is word low high =
      let lies = block_inside (layout_of image) b is in
      same.words_are word (λ e. omega (arith, e, lies.0)) (omega (arith, lies.1))

  module _ (limit : ℕ) (links : Links) (within : AreInside limit links) (kinds : ℕ → ℕ) where
    same_traced : (at : ℕ) → IsTraced image kinds links at → other at ≡ image at
    same_traced _ (is_root root at below chosen is) =
        subst (λ w. other w ≡ image w) (sym is) (same.words_are (root_word root) (λ e. omega (arith, e)) (omega arith))
    same_traced _ (is_linked a from position kind at reached listed is) =
        let long = length-words_from image a.first_word a.words in
        let inside = within.position from _ position kind listed in
        subst (λ w. other w ≡ image w) (sym is)
        (same_part a (reached_block image kinds links a from reached) (a.first_word + position) (omega arith) (omega arith))

    alike : TracesAlike image other AnyRoot kinds links
    alike = record {
      same_words = same_traced;
      are_blocks = λ b kind reached. same_block b (reached_block image kinds links b kind reached);
      same_links = λ b kind reached.
          ap (λ ws. links kind ws) (words_from-agree other image b.first_word b.words (same_part b (reached_block image kinds links b kind reached)));
    }

    same_reach : (b : Block) (kind : ℕ) → Reach image kinds links b kind → Reach other kinds links b kind
    same_reach = reach_kept image other AnyRoot kinds links alike

    same_outside : (at : ℕ) → ((b : Block) → IsBlock (layout_of other) b → IsBlock (layout_of image) b) → IsOutside image kinds links at
        → IsOutside other kinds links at
    same_outside at back out = record {
      traced = traced_kept image other AnyRoot kinds links alike at out.traced;
      outside = outside_kept image other AnyRoot kinds links alike at back out.traced out.outside;
    }

module _ (words kinds : List ℕ) (links : Links) (limit : ℕ) (count : length kinds ≡ roots) (within : AreInside limit links)
    (formed : IsOldWellFormed (8 * length words) (slice_index words)) where
  abbrev old : Image
  old = slice_index words

  abbrev new : Image
  new = slice_index (current_words words kinds)

  same : HasSameHeap old new
  same = current_same None words kinds count (inl formed)

  back : HasSameHeap new old
  back = other_way old new same

  few : used_of new ≤ capacity_of new
  few = let capacity = same.capacity_is in let used = same.used_is in let less = formed.used in omega arith

  given : (i : ℕ) → i < roots → kinds_of new i ≡ slice_index kinds i
  given = current_kinds words kinds count formed

  pub current_reach : (b : Block) (kind : ℕ) → Reach old (slice_index kinds) links b kind ↔ ReachIn new links b kind
  current_reach b kind = (
    λ reached. reach_by_kinds new (slice_index kinds) (kinds_of new) links (λ i less. sym (given i less)) b kind
        (same_reach old new same formed.used limit links within (slice_index kinds) b kind reached),
    λ reached. same_reach new old back few limit links within (slice_index kinds) b kind
        (reach_by_kinds new (kinds_of new) (slice_index kinds) links given b kind reached),
  )

  pub current_outside : (at : ℕ) → IsOutside old (slice_index kinds) links at ↔ IsOutsideIn new links at
  current_outside at = (
    λ out. let there = same_outside old new same formed.used limit links within (slice_index kinds) at (same_block new old back few) out in
        record {
          traced = traced_by_kinds new (slice_index kinds) (kinds_of new) links (λ i less. sym (given i less)) at there.traced;
          outside = there.outside;
        },
    λ out. same_outside new old back few limit links within (slice_index kinds) at (same_block old new same formed.used)
        (record { traced = traced_by_kinds new (kinds_of new) (slice_index kinds) links given at out.traced; outside = out.outside }),
  )

-- Recovery changes no word of a kept block, no root, and no kind of a root.
use Rattle.std.proofs.Common.{◌≡◌, ℕ, ◌<◌, inl, inr, refl, subst, arith}
use Rattle.heap_model.specs.declared.block.Block.{Block}
use Rattle.heap_model.specs.Geometry.{roots, root_word, kind_word}
use Rattle.heap_model.specs.Header.{capacity_of}
use Rattle.heap_model.specs.Image.{Image}
use Rattle.heap_model.specs.Sizes.{IsClass, words_of_class, blocks_of}
use Rattle.heap_model.specs.Blocks.{layout_of, of_class, IsBlock, IsIn}
use Rattle.heap_model.specs.Reach.{Links, IsReached}
use Rattle.heap_model.specs.Recovery.{IsPartial, IsSpare, IsRecovered, is_root, is_kind}
use Rattle.heap_model.proofs.BlockLemmas.{never_overlap, block_inside, block_words}
use Rattle.heap_model.proofs.ReachLemmas.{reached_block}
use Rattle.heap_recover.proofs.SuperblockLemmas.{but_last_in}

-- a spare block is a block
spare_block : (old : Image) (kept : Block → Type 0) (class d w : ℕ) → IsClass class → IsPartial (layout_of old) kept class d
    → (spare : IsSpare (layout_of old) kept class d w) → IsBlock (layout_of old) spare.block
spare_block old kept class d w is partial spare = record {
  superblock = d;
  index = spare.index;
  words = words_of_class class;
  count = blocks_of class;
  is_of = record {
    taken = partial.taken;
    begins = of_class class partial.info_is is;
    below = spare.is_block.below;
    at = spare.is_block.at;
    size = spare.is_block.size;
  };
}

-- no word of a kept block is the first word of a spare one
not_spare : (old : Image) (kept : Block → Type 0) (b : Block) (class d word : ℕ) → IsBlock (layout_of old) b → kept b → IsIn b word
    → IsClass class → IsPartial (layout_of old) kept class d
    → IsSpare (layout_of old) kept class d word → ⊥
not_spare old kept b class d word is_b is_kept inside is partial spare =
    let l = layout_of old in
    let is_spare = spare_block old kept class d word is partial spare in
    let some = block_words l spare.block is_spare in
    let first = spare.first in
    elim (never_overlap l b spare.block is_b is_spare) as (λ _. ⊥) [
      | inl same ↦ spare.unkept (subst kept same is_kept)
      | inr apart ↦ elim apart as (λ _. ⊥) [ inl before ↦ omega (arith, inside.until) | inr behind ↦ omega (arith, inside.from) ]
    ]

pub words_unchanged : (old new : Image) (kinds : ℕ → ℕ) (links : Links) → IsRecovered old new (IsReached old kinds links)
    → (b : Block) (word : ℕ) → IsReached old kinds links b → IsIn b word → new word ≡ old word
words_unchanged old new kinds links recovered b word reached inside =
    let is_b = reached_block old kinds links b reached.kind reached.reach in
    let lies = block_inside (layout_of old) b is_b in
    recovered.inside word (omega (arith, lies.0, inside.from)) (λ class d is partial linked.
    not_spare old (IsReached old kinds links) b class d word is_b reached inside is partial
    ((recovered.chained class d is partial).sound word (but_last_in (recovered.chains d) word linked)))

pub roots_unchanged : (old new : Image) (kinds : ℕ → ℕ) (links : Links) → IsRecovered old new (IsReached old kinds links) → (i : ℕ) → i < roots
    → new (root_word i) ≡ old (root_word i)
roots_unchanged old new kinds links recovered i below = recovered.same (root_word i) (is_root i (root_word i) below refl)

pub kinds_unchanged : (old new : Image) (kept : Block → Type 0) → IsRecovered old new kept → (i : ℕ) → i < roots
    → new (kind_word (capacity_of old) i) ≡ old (kind_word (capacity_of old) i)
kinds_unchanged old new kept recovered i below = recovered.same (kind_word (capacity_of old) i) (is_kind i (kind_word (capacity_of old) i) below refl)

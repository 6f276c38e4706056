-- Blocks by their index: each is a block, and a superblock has one of each index.
use Rattle.std.proofs.Common.{◌≡◌, ℕ, ◌+◌, ◌*◌, ◌<◌, ap, sym, ◌∙◌, arith}
use Rattle.heap_model.specs.declared.block.Block.{Block}
use Rattle.heap_model.specs.Geometry.{start_word}
use Rattle.heap_model.specs.Blocks.{Layout, IsBlock}
use Rattle.heap_model.proofs.BlockLemmas.{same_begins, same_first}
use Rattle.super_block.specs.declared.division.Division.{Division}
use Rattle.super_block.specs.Division.{IsDivision}
use Rattle.super_block.specs.Index.{HasIndex}

-- a block with an index is a block
pub indexed_block : (l : Layout) (d index : ℕ) (b : Block) → HasIndex l d index b → IsBlock l b
indexed_block l d index b is = record { superblock = d; index = index; words = is.words; count = is.count; is_of = is.is_of }

-- blocks of one superblock and one index are one
pub same_index : (l : Layout) (d index : ℕ) (a b : Block) → HasIndex l d index a → HasIndex l d index b → a ≡ b
same_index l d index a b of_a of_b =
    let same = same_begins l d of_a.words of_a.count of_b.words of_b.count of_a.is_of.begins of_b.is_of.begins in
    same_first l a b (indexed_block l d index a of_a) (indexed_block l d index b of_b)
    (of_a.is_of.at ∙ ap (λ words. start_word l.capacity d + index * words) same.0 ∙ sym of_b.is_of.at)

-- in a superblock that is divided so an index lies below the count
pub index_below : (l : Layout) (d index : ℕ) (division : Division) (b : Block) → IsDivision l d division → HasIndex l d index b → index < division.count
index_below l d index division b divided is =
    let same = same_begins l d division.words division.count is.words is.count divided is.is_of.begins in
    omega (arith, same.1, is.is_of.below)

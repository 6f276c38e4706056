-- Facts on the blocks of an image: each begins early, and is the one that its first byte names.
use Rattle.std.proofs.Common.{◌≡◌, ℕ, ◌*◌, ◌<◌, ◌^◌, ◌&&◌, true, nat_eq, ap, subst, arith}
use Rattle.std.proofs.lemmas.Bool.{and_parts, and_from, eqb-true, eq-eqb}
use Rattle.heap_model.specs.declared.block.Block.{Block}
use Rattle.heap_model.specs.Image.{Image}
use Rattle.heap_model.specs.Header.{IsWellFormed}
use Rattle.heap_model.specs.Blocks.{Layout, layout_of, IsBlock, NamesIn}
use Rattle.heap_model.proofs.BlockLemmas.{same_first}
use Rattle.filter_trace.proofs.TraceStepLemmas.{block_within, image_short}

-- a block of an image begins early
pub block_low : (image : Image) (n : ℕ) (b : Block) → IsWellFormed (8 * n) image → IsBlock (layout_of image) b → b.first_word < 2 ^ 32
block_low image n b formed is =
    let within = block_within image n b formed is in
    let short = image_short image n formed in
    omega arith

-- a block that is the named one is one
pub same_named : (l : Layout) (offset : ℕ) (named block : Block) → NamesIn l offset named
    → (nat_eq named.first_word block.first_word && nat_eq named.words block.words) ≡ true → IsBlock l block
same_named l offset named block names same =
    let parts = and_parts (nat_eq named.first_word block.first_word) (nat_eq named.words block.words) same in
    let first : named.first_word ≡ block.first_word = eqb-true named.first_word block.first_word parts.0 in
    let words : named.words ≡ block.words = eqb-true named.words block.words parts.1 in
    let one : named ≡ block = λ i. record { first_word = first i; words = words i } in
    subst (λ b. IsBlock l b) one names.block

-- and a block is the one that its first byte names
pub names_itself : (l : Layout) (offset : ℕ) (block : Block) → offset ≡ block.first_word * 8 → IsBlock l block → NamesIn l offset block
names_itself l offset block at is = record { begins_at = omega arith; block = is }

pub named_same : (l : Layout) (offset : ℕ) (named block : Block) → NamesIn l offset named → offset ≡ block.first_word * 8 → IsBlock l block
    → (nat_eq named.first_word block.first_word && nat_eq named.words block.words) ≡ true
named_same l offset named block names at is =
    let first : named.first_word ≡ block.first_word = let begins = names.begins_at in omega arith in
    let one : named ≡ block = same_first l named block names.block is first in
    and_from (nat_eq named.first_word block.first_word) (nat_eq named.words block.words) (eq-eqb named.first_word block.first_word first)
    (eq-eqb named.words block.words (ap (λ (b : Block). b.words) one))

-- Worked examples that rest on the laws: words that lead nowhere.
use Rattle.std.proofs.Common.{◌≡◌, ◌+◌, ◌*◌, inl, inr, ap, arith}
use Rattle.heap_model.specs.declared.block.Block.{Block}
use Rattle.heap_model.specs.Blocks.{layout_of}
use Rattle.heap_model.specs.Pointers.{LeadsOutside}
use Rattle.heap_model.specs.BlockExamples.{one_table, table_block, first_block}
use Rattle.heap_model.proofs.BlockLemmas.{never_overlap, block_words}

-- a pointer into a block's middle leads to no block
interior : LeadsOutside one_table 0x5250000000002188
interior = record {
  not_null = λ null. omega arith;
  nowhere = λ b leads.
      let at : 8 * b.first_word ≡ 8584 = let tagged = leads.pointer.tagged in omega arith in
      let some = block_words (layout_of one_table) b leads.names.block in
      elim (never_overlap (layout_of one_table) b (table_block 0) leads.names.block first_block) as (λ _. ⊥) [
        | inl same ↦ let first : b.first_word ≡ 1072 + 0 * 128 = ap (λ (x : Block). x.first_word) same in omega arith
        | inr apart ↦ elim apart as (λ _. ⊥) [ inl before ↦ omega arith | inr behind ↦ omega arith ]
      ];
}

-- a word with another tag leads nowhere
untagged : LeadsOutside one_table 0x5251000000002180
untagged = record { not_null = λ null. omega arith; nowhere = λ b leads. let to = leads.pointer in omega arith }

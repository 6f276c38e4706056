-- A worked example of what recovery leaves of one superblock.
use Rattle.std.specs.Prelude.{◌≡◌, ℕ, ◌+◌, ◌*◌, ◌<◌, ◌≤◌, [], ◌∷◌, refl}
use Rattle.std.proofs.Common.{inl, inr, arith, ap, sym, ◌∙◌}
use Rattle.std.proofs.lemmas.Bool.{cases_lt}
use Rattle.heap_model.specs.declared.block.Block.{Block}
use Rattle.heap_model.specs.Image.{Image}
use Rattle.heap_model.specs.Sizes.{class_sizes, words_of_class, blocks_of}
use Rattle.heap_model.specs.Blocks.{layout_of}
use Rattle.heap_model.specs.Recovery.{IsSpare, IsPartial}
use Rattle.heap_model.specs.Examples.{formatted}
use Rattle.heap_model.proofs.PartLemmas.{same_fields}
use Rattle.heap_recover.specs.Superblock.{IsRelinked}

-- One superblock of class 20 (1,792 words a block), which has four blocks, of which the second is kept.
unfoldable pub one_of_four : Image
one_of_four = formatted 1 ((8, 1) ∷ (1064, 20) ∷ [])

-- block `index` of that superblock
abbrev pub quarter : ℕ → Block
quarter index = record { first_word = 1072 + index * 1792; words = 1792 }

-- the second of them is the kept one
abbrev pub is_second : Block → Type 0
is_second b = b ≡ quarter 1

-- a spare block is the first, the third or the fourth
pub record IsOtherQuarter (w : ℕ) : Type 0 where
  pub index : ℕ
  pub few : index < 4
  pub at : w ≡ 1072 + index * 1792
  pub other : index ≡ 1 → ⊥

pub spare_quarter : (class w : ℕ) → class ≡ 20 → IsSpare (layout_of one_of_four) is_second class 0 w → IsOtherQuarter w
unfolding one_of_four words_of_class blocks_of class_sizes
spare_quarter class w same is = record {
  index = is.index;
  few = few;
  at = sym is.first ∙ first;
  other = λ second. is.unkept (same_fields is.block (quarter 1) (first ∙ ap (λ i. 1072 + i * 1792) second) (is.is_block.size ∙ ap words_of_class same));
} where
  few : is.index < 4
  few = let below = is.is_block.below in omega (arith, ap blocks_of same)

  first : is.block.first_word ≡ 1072 + is.index * 1792
  first = is.is_block.at ∙ ap (λ c. 1072 + is.index * words_of_class c) same

quarter_spare : (index : ℕ) → index < 4 → (index ≡ 1 → ⊥) → IsSpare (layout_of one_of_four) is_second 20 0 (1072 + index * 1792)
unfolding one_of_four words_of_class blocks_of class_sizes
quarter_spare index few other = record {
  index = index;
  block = quarter index;
  is_block = record { below = few; at = refl; size = refl };
  first = refl;
  unkept = λ second. other (let e = ap (λ (b : Block). b.first_word) second in omega arith);
}

is_partial : IsPartial (layout_of one_of_four) is_second 20 0
unfolding one_of_four
is_partial = record {
  taken = omega arith;
  info_is = refl;
  holds = record { block = quarter 1; is_kept = refl; part = record { begins = omega arith; ends = omega arith } };
  spare = (1072, quarter_spare 0 (omega arith) (λ e. omega arith));
}

-- word 1072, with which the first block begins, is to lead to the third
pub first_leads_to_third : IsRelinked (layout_of one_of_four) is_second 0 1072 4656
first_leads_to_third = record {
  class = 20;
  is_class = record { some = omega arith; last = omega arith };
  partial = is_partial;
  next_spare = record {
    spare = quarter_spare 0 (omega arith) (λ e. omega arith);
    is_next = quarter_spare 2 (omega arith) (λ e. omega arith);
    behind = omega arith;
    least = λ v spare behind. let is = spare_quarter 20 v refl spare in let at = is.at in
        elim (cases_lt is.index 2) as (λ _. 4656 ≤ v) [
          | inl low ↦ absurd (is.other (omega arith))
          | inr high ↦ omega arith
        ];
  };
}

-- the class of the superblock is the only one that it can be relinked in
class_is : (w next : ℕ) → (is : IsRelinked (layout_of one_of_four) is_second 0 w next) → is.class ≡ 20
unfolding one_of_four
class_is w next is = sym is.partial.info_is

-- word 6448, with which the last block begins, leads to no other, and so stays
pub last_stays : (next : ℕ) → IsRelinked (layout_of one_of_four) is_second 0 6448 next → ⊥
last_stays next is =
    let there = spare_quarter is.class next (class_is 6448 next is) is.next_spare.is_next in
    let few = there.few in
    let at = there.at in
    let behind = is.next_spare.behind in
    omega arith

-- and so does word 2864, with which the kept block begins
pub kept_stays : (next : ℕ) → IsRelinked (layout_of one_of_four) is_second 0 2864 next → ⊥
kept_stays next is =
    let here = spare_quarter is.class 2864 (class_is 2864 next is) is.next_spare.spare in
    let at = here.at in
    here.other (omega arith)
